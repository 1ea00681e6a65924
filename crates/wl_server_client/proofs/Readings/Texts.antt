-- The texts of errors hold no zero byte, so that they can go on the wire.
use Rattle.std.proofs.Common.{◌≡◌, ◌∙◌, ℕ, zero, suc, ◌+◌, ◌/◌, Bool, false, ◌||◌, List, [], ◌∷◌, ◌++◌, length, take, drop, Option, None, Some, refl, sym, ap, append_assoc, arith, nat_lt}
use Rattle.std.proofs.lemmas.Option.{none-some, same_Some}
use Rattle.std.specs.Prelude.{◌==◌, slice_get, codes}
use Rattle.std.specs.Fmt.{decimal, digit_glyph, digits, digits_onto}
use Rattle.std.specs.List.{list_any}
use Rattle.std.specs.Str.Lossy.{after_first_chunk, utf8_lossy, utf8_lossy_within, utf8_valid_len}
use Rattle.std.proofs.lemmas.Bool.{ne_eqb, or_parts, false_from_ne_true}
use Rattle.std.proofs.lemmas.List.{take-append-drop}
use Rattle.std.proofs.lemmas.List.Folds.{list_any-append, list_any_none}
use Rattle.wl_wire.specs.declared.interface.InterfaceId.{InterfaceId}
use Rattle.wl_wire.specs.declared.protocol.TableError.TheVariants as fault
use Rattle.wl_wire.specs.MessageRows.{request_in, request_row}
use Rattle.wl_wire.specs.Text.{HasNoZero}
use Rattle.wl_wire.specs.Table.{InterfaceRow, IsAcceptedTable, MessageRow, anonymous_row, callback_row, display_row, registry_row, fixed_rows, holds_zero, messages, name_of}
use Rattle.wl_link.specs.declared.object.Object.{Object}
use Rattle.wl_server_client.specs.declared.objects.Kept.{Kept}
use Rattle.wl_server_client.specs.Reading.{row_in}

abbrev pub IsFree : List ℕ → Type 0
IsFree text = holds_zero text ≡ false

-- ---- pieces of a text

pub free_both : (a b : List ℕ) → IsFree a → IsFree b → IsFree (a ++ b)
free_both a b h k = list_any-append (λ byte. byte == 0) a b ∙ (grind (arith, holds_zero a, holds_zero b))

free_parts : (n : ℕ) (text : List ℕ) → IsFree text → IsFree (take n text) × IsFree (drop n text)
free_parts n text h =
    or_parts _ _ (sym (list_any-append (λ byte. byte == 0) (take n text) (drop n text)) ∙ ap holds_zero (take-append-drop n text) ∙ h)

-- ---- numbers

free_digits : (k n : ℕ) (acc : List ℕ) → IsFree acc → IsFree (digits_onto k 10 false n acc)
free_digits zero n acc h = h
free_digits (suc k) n acc h = grind (arith, digit_glyph, holds_zero, nat_lt, free_digits k (n / 10))

pub free_decimal : (n : ℕ) → IsFree (decimal n)
unfolding digits
free_decimal n = free_digits 64 n [] refl

-- ---- texts of a client

free_within : (k : ℕ) (bytes : List ℕ) → IsFree bytes → IsFree (utf8_lossy_within k bytes)
free_within zero bytes h = h
free_within (suc k) bytes h =
    grind (arith, free_both, free_within k (after_first_chunk bytes) (free_parts _ bytes h).1, (free_parts (utf8_valid_len bytes) bytes h).0)

pub free_lossy : (bytes : List ℕ) → IsFree bytes → IsFree (utf8_lossy bytes)
unfolding utf8_lossy
free_lossy bytes h = free_within (length bytes) bytes h

-- a string's invariant
pub free_string : (bytes : List ℕ) → HasNoZero bytes → IsFree bytes
free_string bytes h = list_any_none (λ byte. byte == 0) bytes (λ k d lt. ne_eqb _ 0 (h k d lt))

-- ---- names

-- neither the interface's name nor that of one of its messages holds a zero
abbrev has_zero : InterfaceRow → Bool
has_zero row = holds_zero row.name || list_any (λ m. holds_zero m.name) (messages row)

-- an element of a list of which none passes
passes_not : {X : Type 0} (p : X → Bool) (xs : List X) (n : ℕ) (x : X) → slice_get xs n ≡ Some x → list_any p xs ≡ false → p x ≡ false
passes_not p [] n x here none = absurd (none-some _ here)
passes_not p (y ∷ xs) zero x here none = ap p (sym (same_Some y x here)) ∙ (or_parts _ _ none).0
passes_not p (y ∷ xs) (suc n) x here none = passes_not p xs n x here (or_parts _ _ none).1

module _ (table : List InterfaceRow) (accepted : IsAcceptedTable table) where
  -- an accepted table is the fixed rows and the others
  pub fixed_first : table ≡ fixed_rows ++ drop 4 table
  fixed_first = sym (take-append-drop 4 table) ∙ ap (λ (rows : List InterfaceRow). rows ++ drop 4 table) accepted.fixed

  first_is : (n : ℕ) → slice_get (fixed_rows ++ drop 4 table) n ≡ slice_get table n
  first_is n = ap (λ (rows : List InterfaceRow). slice_get rows n) (sym fixed_first)

  is_free : (fixed row : InterfaceRow) → has_zero fixed ≡ false → Some fixed ≡ Some row → has_zero row ≡ false
  is_free fixed row free same = rw (← same_Some fixed row same) free

  free_row : (n : ℕ) (row : InterfaceRow) → slice_get table n ≡ Some row → has_zero row ≡ false
  free_row zero row here = is_free anonymous_row row refl (first_is 0 ∙ here)
  free_row (suc zero) row here = is_free display_row row refl (first_is 1 ∙ here)
  free_row (suc (suc zero)) row here = is_free registry_row row refl (first_is 2 ∙ here)
  free_row (suc (suc (suc zero))) row here = is_free callback_row row refl (first_is 3 ∙ here)
  free_row (suc (suc (suc (suc k)))) row here =
      false_from_ne_true (has_zero row) (λ is. accepted.no_fault (fault.ZeroInName k)
      (let there : slice_get table (4 + k) ≡ Some row = ap (slice_get table) (omega arith) ∙ here in rw there is))

  -- the name of the interface at a place
  pub free_name : (n : ℕ) → IsFree (name_of table n)
  free_name n = grind (arith, free_row n, or_parts, slice_get table n)

  -- the name of a request
  pub free_request : (i : InterfaceId) (opcode : ℕ) (row : MessageRow) → request_row table i opcode ≡ Some row → IsFree row.name
  free_request i opcode row = at (slice_get table i.0) refl
    where
      at : (o : Option InterfaceRow) → slice_get table i.0 ≡ o → request_in o opcode ≡ Some row → IsFree row.name
      at None is none = absurd (none-some _ none)
      at (Some interface) is there =
          passes_not (λ m. holds_zero m.name) interface.requests opcode row there
          (or_parts _ _ (sym (list_any-append (λ m. holds_zero m.name) interface.requests interface.events)
          ∙ (or_parts (holds_zero interface.name) _ (free_row i.0 interface is)).1)).0

-- ---- texts

-- an interface's name, a dot and a request's are one name
pub one_name : (interface request rest : List ℕ) → interface ++ (codes "." ++ (request ++ rest)) ≡ (interface ++ (codes "." ++ request)) ++ rest
one_name interface request rest = sym (append_assoc interface (codes "." ++ request) rest)

-- the name of a request that was looked up for an object
pub free_looked_up : {U : Type 0} (table : List InterfaceRow) (accepted : IsAcceptedTable table) (x : Option (Object (Kept U))) (opcode : ℕ)
    (row : MessageRow)
    → Some row ≡ row_in table x opcode → IsFree row.name
free_looked_up table accepted h3 opcode row is = grind (arith, none-some, free_request)
