-- Whole rows, compared with a table and taken apart.
use Rattle.std.proofs.Common.{◌≡◌, ◌≢◌, ◌≤◌, ◌<◌, ℕ, suc, ◌+◌, ◌∷◌, [], List, length, map, drop, get_or, Some, None, true, false, ◌&&◌, ◌||◌, cond, add-one, arith, refl, sym, ap, ◌∙◌, min, inl, inr, append_assoc, drop-cons, take}
use Rattle.std.specs.Prelude.{◌==◌, if◌then◌else◌}
use Rattle.std.specs.List.{list_any, position_from}
use Rattle.std.proofs.lemmas.Option.{slice_get-get_or, slice_get-map, slice_get_past}
use Rattle.std.proofs.lemmas.List.{append-nil, drop_all, take-map}
use Rattle.std.proofs.lemmas.Bool.{cases_lt}
use Rattle.std.specs.Str.{bytes_eq}
use Rattle.std.specs.String.{string_bytes}
use Rattle.wl_wire.specs.declared.argument.ArgumentType.{ArgumentType}
use Rattle.wl_wire.specs.declared.interface.Interface.{Interface}
use Rattle.wl_wire.specs.declared.interface.InterfaceId.{InterfaceId}
use Rattle.wl_wire.specs.declared.interface.MessageDesc.{MessageDesc}
use Rattle.wl_wire.specs.MessageRows.{type_number}
use Rattle.wl_wire.specs.Table.{InterfaceRow, MessageRow, interface_rows, interface_row, is_taken, message_row, name_of}
use Rattle.wl_wire.specs.declared.protocol.TableError.TheVariants as error
use Rattle.wl_flat.specs.Rows.{fault_of}
use Rattle.wl_flat.specs.Extending.{agree_on, differ_from, interfaces_agree, messages_agree, types_agree, Parts, contradiction_of, fault_as_told, fault_at, joined, no_parts, part_of, parts_from}

pub drop_one : {A : Type 0} (rows : List A) (i : ℕ) (d : A) → i < length rows → drop i rows ≡ get_or rows i d ∷ drop (i + 1) rows
drop_one rows i d within = rw add-one (drop-cons rows i d within)

pub any_row : (name : List ℕ) (xs : List Interface) → list_any (λ i. bytes_eq name (string_bytes i.name)) xs ≡ is_taken (interface_rows xs) name
any_row name [] = refl
any_row name (x ∷ xs) = ap (λ b. bytes_eq name (string_bytes x.name) || b) (any_row name xs)

-- ---- lists of one length

pub interfaces_unlike : (there said : List InterfaceId) → length there ≢ length said → interfaces_agree there said ≡ false
interfaces_unlike [] [] unlike = absurd (unlike refl)
interfaces_unlike [] (j ∷ said) unlike = refl
interfaces_unlike (i ∷ there) [] unlike = refl
interfaces_unlike (i ∷ there) (j ∷ said) unlike = elim (agree_on i j) as (λ b. (b && interfaces_agree there said) ≡ false) [
  | true ↦ interfaces_unlike there said (λ same. unlike (ap suc same))
  | false ↦ refl
]

pub interfaces_one : (there said : List InterfaceId) (n : ℕ) (d e : InterfaceId) → n < length there → n < length said
    → interfaces_agree (drop n there) (drop n said) ≡ (agree_on (get_or there n d) (get_or said n e) && interfaces_agree (drop (n + 1) there) (drop (n + 1) said))
interfaces_one there said n d e in_there in_said = rw (drop_one there n d in_there, drop_one said n e in_said) refl

pub types_unlike : (there said : List ArgumentType) → length there ≢ length said → types_agree there said ≡ false
types_unlike [] [] unlike = absurd (unlike refl)
types_unlike [] (j ∷ said) unlike = refl
types_unlike (i ∷ there) [] unlike = refl
types_unlike (i ∷ there) (j ∷ said) unlike = elim (type_number i == type_number j) as (λ b. (b && types_agree there said) ≡ false) [
  | true ↦ types_unlike there said (λ same. unlike (ap suc same))
  | false ↦ refl
]

pub types_one : (there said : List ArgumentType) (n : ℕ) (d e : ArgumentType) → n < length there → n < length said
    → types_agree (drop n there) (drop n said) ≡ ((type_number (get_or there n d) == type_number (get_or said n e)) && types_agree (drop (n + 1) there) (drop (n + 1) said))
types_one there said n d e in_there in_said = rw (drop_one there n d in_there, drop_one said n e in_said) refl

pub differ_one : (there said : List MessageDesc) (n : ℕ) (d e : MessageDesc) → n < length there → n < length said
    → differ_from n (map message_row (drop n there)) (map message_row (drop n said))
    ≡ (if messages_agree (message_row (get_or there n d)) (message_row (get_or said n e)) then differ_from (n + 1) (map message_row (drop (n + 1) there)) (map message_row (drop (n + 1) said)) else Some n)
differ_one there said n d e in_there in_said = rw (drop_one there n d in_there, drop_one said n e in_said) refl

pub place_one : (table : List InterfaceRow) (name : List ℕ) (n : ℕ) (d : InterfaceRow) → n < length table
    → position_from (λ row. bytes_eq name row.name) n (drop n table)
    ≡ cond (bytes_eq name (name_of table n)) (Some n) (position_from (λ row. bytes_eq name row.name) (n + 1) (drop (n + 1) table))
place_one table name n d within = rw (drop_one table n d within, slice_get-get_or table n d within) refl

pub drop_least : {A : Type 0} (n : ℕ) (xs : List A) → drop (min n (length xs)) xs ≡ drop n xs
drop_least n xs = elim (cases_lt n (length xs)) [
  | inl within ↦ ap (λ k. drop k xs) (omega (arith, within))
  | inr past ↦ let least : min n (length xs) ≡ length xs = omega (arith, past) in
      ap (λ k. drop k xs) least ∙ drop_all (length xs) xs (omega arith) ∙ sym (drop_all n xs past)
]

differ_nil : (n : ℕ) (there : List MessageRow) → differ_from n there [] ≡ None
differ_nil n [] = refl
differ_nil n (m ∷ there) = refl

pub differ_end : (there said : List MessageDesc) (n : ℕ) → min (length there) (length said) ≤ n
    → None ≡ differ_from n (map message_row (drop n there)) (map message_row (drop n said))
differ_end there said n past = elim (cases_lt n (length there)) [
  | inl within ↦ rw (drop_all n said (omega (arith, within, past))) (sym (differ_nil n (map message_row (drop n there))))
  | inr end ↦ rw (drop_all n there end) refl
]

-- ---- parts

pub joined_assoc : (p q r : Parts) → joined (joined p q) r ≡ joined p (joined q r)
joined_assoc p q r = rw (append_assoc p.new_rows q.new_rows r.new_rows, append_assoc p.new_at q.new_at r.new_at, append_assoc p.longer q.longer r.longer) refl

no_parts_last : (p : Parts) → joined p no_parts ≡ p
no_parts_last p = rw (append-nil p.new_rows, append-nil p.new_at, append-nil p.longer) refl

-- the next row was taken apart
pub parts_one : (table : List InterfaceRow) (done next : Parts) (at at' : ℕ) (left rest : List Interface) (said : Interface)
    → left ≡ said ∷ rest → at' ≡ at + 1 → next ≡ joined done (part_of table at (interface_row said))
    → joined done (parts_from table at (interface_rows left)) ≡ joined next (parts_from table at' (interface_rows rest))
parts_one table done next at at' left rest said is after here =
    rw (is, after, here) (sym (joined_assoc done (part_of table at (interface_row said)) (parts_from table (at + 1) (interface_rows rest))))

-- no row is left
pub parts_end : (table : List InterfaceRow) (done : Parts) (at : ℕ) (left : List Interface) → left ≡ [] → joined done (parts_from table at (interface_rows left)) ≡ done
parts_end table done at left is = rw is (no_parts_last done)

-- ---- one row and the rows before it

pub fault_there : (table : List InterfaceRow) (rows : List Interface) (at : ℕ) (said : Interface) → at < length rows → said ≡ get_or rows at said
    → fault_at table (interface_rows rows) at
    ≡ (if list_any (λ i. bytes_eq (string_bytes said.name) (string_bytes i.name)) (take at rows) then Some (fault_as_told (fault_of (error.DuplicateName at)))
    else contradiction_of table at (interface_row said))
fault_there table rows at said within is =
    rw (slice_get-map interface_row rows at, slice_get-get_or rows at said within, ← is, take-map interface_row at rows, ← any_row (string_bytes said.name) (take at rows)) refl

pub fault_repeated : (table : List InterfaceRow) (rows : List Interface) (at : ℕ) (said : Interface) → at < length rows → said ≡ get_or rows at said
    → list_any (λ i. bytes_eq (string_bytes said.name) (string_bytes i.name)) (take at rows) ≡ true
    → fault_at table (interface_rows rows) at ≡ Some (fault_as_told (fault_of (error.DuplicateName at)))
fault_repeated table rows at said within is repeated = fault_there table rows at said within is ∙ rw repeated refl

pub fault_once : (table : List InterfaceRow) (rows : List Interface) (at : ℕ) (said : Interface) → at < length rows → said ≡ get_or rows at said
    → list_any (λ i. bytes_eq (string_bytes said.name) (string_bytes i.name)) (take at rows) ≡ false
    → fault_at table (interface_rows rows) at ≡ contradiction_of table at (interface_row said)
fault_once table rows at said within is once = fault_there table rows at said within is ∙ rw once refl

pub fault_past : (table : List InterfaceRow) (rows : List Interface) (at : ℕ) → length rows ≤ at → fault_at table (interface_rows rows) at ≡ None
fault_past table rows at past = rw (slice_get-map interface_row rows at, slice_get_past rows at past) refl
