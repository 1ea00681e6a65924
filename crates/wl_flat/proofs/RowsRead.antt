-- What rows say, row by row.
use Rattle.std.proofs.Common.{◌≡◌, ◌≤◌, ◌<◌, ℕ, ◌+◌, ◌∷◌, ◌++◌, [], List, length, drop, drop-cons, get_or, slice_range, Option, Some, None, option_map, true, false, add-one, arith, refl, append_assoc}
use Rattle.std.proofs.lemmas.Str.{IsUtf8-from_is_utf8, is_utf8-from_IsUtf8}
use Rattle.std.specs.Str.{IsUtf8, is_utf8}
use Rattle.std.specs.Prelude.{Result, Ok, Err}
use Rattle.wl_wire.specs.Table.{InterfaceRow as Interface, MessageRow as Message}
use Rattle.wl_flat.specs.declared.rows.ArgumentRow.{ArgumentRow}
use Rattle.wl_flat.specs.declared.rows.InterfaceRow.{InterfaceRow}
use Rattle.wl_flat.specs.declared.rows.MessageRow.{MessageRow}
use Rattle.wl_flat.specs.Rows.{Unread, after, cut, interface_said, interfaces_from, message_said, messages_said, name_at, with_first}

drop_one : {A : Type 0} (rows : List A) (i : ℕ) (d : A) → i < length rows → drop i rows ≡ get_or rows i d ∷ drop (i + 1) rows
drop_one rows i d within = rw add-one (drop-cons rows i d within)

-- ---- names

pub name_at-there : (text : List ℕ) (at n : ℕ) → at + n ≤ length text → IsUtf8 (slice_range text at (at + n)) → name_at text at n ≡ Some (slice_range text at (at + n))
name_at-there text at n h u = grind (arith, is_utf8-from_IsUtf8 _ u)

pub name_at-no_text : (text : List ℕ) (at n : ℕ) → (IsUtf8 (slice_range text at (at + n)) → ⊥) → name_at text at n ≡ None
name_at-no_text text at n not_utf8 = elim (is_utf8 (slice_range text at (at + n))) as (λ b. is_utf8 (slice_range text at (at + n)) ≡ b → name_at text at n ≡ None) [
  | true ↦ λ e. absurd (not_utf8 (IsUtf8-from_is_utf8 _ e))
  | false ↦ λ e. grind (arith, e)
] refl

-- ---- messages

-- those that were read, before the others
abbrev pub behind : {A B : Type 0} → List A → Option (List A × B) → Option (List A × B)
behind xs r = option_map (λ r. (xs ++ r.0, r.1)) r

behind_one : {A B : Type 0} (xs : List A) (x : A) (r : Option (List A × B)) → behind xs (option_map (with_first x) r) ≡ behind (xs ++ x ∷ []) r
behind_one xs x None = refl
behind_one xs x (Some r) = rw append_assoc

-- one more message was read
pub messages_said-one : (text : List ℕ) (rows : List MessageRow) (i : ℕ) (d : MessageRow) (arguments a rest : List ArgumentRow) (done : List Message) (message : Message)
    → i < length rows → cut arguments (get_or rows i d).arguments ≡ Some (a, rest) → message_said text (get_or rows i d) a ≡ Some message
    → behind done (messages_said text (drop i rows) arguments) ≡ behind (done ++ message ∷ []) (messages_said text (drop (i + 1) rows) rest)
messages_said-one text rows i d arguments a rest done message within here said =
    rw (drop_one rows i d within, here, said) (behind_one done message _)

-- ---- interfaces

-- those that were read, before the others
abbrev pub after_all : List Interface → Result (List Interface) ℕ → Result (List Interface) ℕ
after_all xs (Ok others) = Ok (xs ++ others)
after_all xs (Err at) = Err at

after_one : (xs : List Interface) (x : Interface) (r : Result (List Interface) ℕ) → after_all xs (after x r) ≡ after_all (xs ++ x ∷ []) r
after_one xs x (Ok others) = rw append_assoc
after_one xs x (Err at) = refl

-- one more interface was read
pub interfaces_from-one : (text : List ℕ) (rows : List InterfaceRow) (i : ℕ) (d : InterfaceRow) (unread rest : Unread) (done : List Interface) (x : Interface)
    → i < length rows → interface_said text (get_or rows i d) unread ≡ Some (x, rest)
    → after_all done (interfaces_from text i (drop i rows) unread) ≡ after_all (done ++ x ∷ []) (interfaces_from text (i + 1) (drop (i + 1) rows) rest)
interfaces_from-one text rows i d unread rest done x within said = rw (drop_one rows i d within, said) (after_one done x _)

-- the next interface names what is not there
pub interfaces_from-none : (text : List ℕ) (rows : List InterfaceRow) (i : ℕ) (d : InterfaceRow) (unread : Unread) (done : List Interface)
    → i < length rows → interface_said text (get_or rows i d) unread ≡ None
    → after_all done (interfaces_from text i (drop i rows) unread) ≡ Err i
interfaces_from-none text rows i d unread done within said = rw (drop_one rows i d within, said) refl
