-- Gathering notes changes nothing of what is seen of any client.
use Rattle.std.proofs.Common.{◌≡◌, ℕ, zero, suc, ◌+◌, ◌≤◌, Bool, true, false, List, [], ◌∷◌, ◌++◌, length, map, drop, Option, None, Some, refl, sym, ap, append_assoc, append-nil, arith}
use Rattle.std.specs.Option.{option_map}
use Rattle.std.specs.Prelude.{slice_get, slice_set}
use Rattle.std.proofs.lemmas.Grind.{flat_map-append}
use Rattle.std.proofs.lemmas.List.{length-append, length-map, drop_more}
use Rattle.std.proofs.lemmas.Option.{same_Some, none-some, get_or_from_slice_get, slice_get_within}
use Rattle.wl_server_client.specs.declared.notes.Happening.{Happening}
use Rattle.wl_server_client.specs.declared.notes.Note.{Note}
use Rattle.wl_server_model.specs.Inside.Gathering.{Gathers, MovesNote, count_leaving}
use Rattle.wl_server_client.specs.Inside.Gathering.{emptied}
use Rattle.wl_server_client.specs.NoteTimes.{to_gather}
use Rattle.wl_server_client.specs.Ids.{ClientParts, same_client}
use Rattle.wl_server_client.specs.Stored.{Stored, note_of}
use Rattle.wl_server_model.specs.Server.{client_at, notes_of, told_of, stored_at}
use Rattle.wl_sets.proofs.Lists.{get_set_same}
use Rattle.wl_server_model.proofs.CallSteps.Slots.{client_present, same_is, client_other}

-- ---- notes of one client

module _ {U : Type 0} where
  pub notes_append : (id : ClientParts) (a b : List (Note U)) → notes_of id (a ++ b) ≡ notes_of id a ++ notes_of id b
  notes_append id a b = flat_map-append (told_of id) a b

  pub notes_same : (target id : ClientParts) (told : List (Happening U)) → same_client target id ≡ true
      → notes_of id (map (note_of target) told) ≡ told
  notes_same target id [] same = refl
  notes_same target id (h ∷ told) same = grind (arith, notes_of, note_of, notes_same target id told same)

  pub notes_other : (target id : ClientParts) (told : List (Happening U)) → same_client target id ≡ false
      → notes_of id (map (note_of target) told) ≡ []
  notes_other target id [] other = refl
  notes_other target id (h ∷ told) other = grind (arith, notes_of, map, note_of, notes_other target id told other)

-- ---- lists

pub map_set : {A B : Type 0} (f : A → B) (xs : List A) (k : ℕ) (x y : A) → slice_get xs k ≡ Some x → f y ≡ f x → map f (slice_set xs k y) ≡ map f xs
map_set f [] k x y here same = refl
map_set f (z ∷ xs) zero x y here same = grind (arith, same_Some)
map_set f (z ∷ xs) (suc k) x y here same = grind (arith, map_set f xs k x y here same)

pub set_itself : {A : Type 0} (xs : List A) (k : ℕ) (x : A) → slice_get xs k ≡ Some x → slice_set xs k x ≡ xs
set_itself [] k x here = refl
set_itself (z ∷ xs) zero x here = grind (arith, same_Some)
set_itself (z ∷ xs) (suc k) x here = grind (arith, set_itself xs k x here)

pub both_none : {A : Type 0} (xs ys : List A) → xs ++ ys ≡ [] → (xs ≡ []) × (ys ≡ [])
both_none [] ys is = (refl, is)
both_none (x ∷ xs) ys is = absurd cc

-- what is left of a list from a place on
pub rest_at : {A : Type 0} (xs : List A) (k : ℕ) (x : A) → slice_get xs k ≡ Some x → drop k xs ≡ x ∷ drop (k + 1) xs
rest_at xs k x here = rw (get_or_from_slice_get xs k x x here) at (drop_more xs k x (slice_get_within xs k x here))

-- what is at a slot once each client became another, and may be gone
pub stored_map : {T U C : Type 0} (f : Option (Stored T U C) → Option (Stored T U C)) → f None ≡ None → (clients : List (Option (Stored T U C)))
    (k : ℕ)
    → stored_at k (map f clients) ≡ f (stored_at k clients)
stored_map f none [] k = sym none
stored_map f none (x ∷ clients) zero = refl
stored_map f none (x ∷ clients) (suc k) = stored_map f none clients k

module _ {T U C : Type 0} (waits : Bool) where
  count_set : (clients : List (Option (Stored T U C))) (k : ℕ) (x y : Option (Stored T U C)) → slice_get clients k ≡ Some x
      → count_leaving waits (slice_set clients k y) + length (to_gather waits x) ≡ count_leaving waits clients + length (to_gather waits y)
  count_set [] k x y here = absurd (none-some x here)
  count_set (z ∷ clients) zero x y here = grind (arith, length, to_gather, same_Some)
  count_set (z ∷ clients) (suc k) x y here = grind (arith, count_set clients k x y here)

  -- ---- counts

  pub count_at : (clients : List (Option (Stored T U C))) (k : ℕ) (x : Option (Stored T U C)) → slice_get clients k ≡ Some x
      → length (to_gather waits x) ≤ count_leaving waits clients
  count_at clients k x here = grind (arith, count_set clients k x None here)

  -- ---- one note is moved

  -- what is told of an id
  abbrev ToldOf : List (Option (Stored T U C)) → List (Note U) → List (Option (Stored T U C)) → List (Note U) → ClientParts → Type 0
  ToldOf clients notes clients' notes' id =
      notes_of id notes' ++ to_gather waits (client_at id clients') ≡ notes_of id notes ++ to_gather waits (client_at id clients)

  told_at : (clients : List (Option (Stored T U C))) (notes notes' : List (Note U)) (slot : ℕ) (x x' : Option (Stored T U C))
      → slice_get clients slot ≡ Some x
      → MovesNote waits slot x notes x' notes' → (id : ClientParts) → ToldOf clients notes (slice_set clients slot x') notes' id
  told_at clients notes notes' slot None None here (h, left, rest, is) id = grind (arith, notes_of, client_at, set_itself, append-nil)
  told_at clients notes notes' slot None (Some s') here (h, left, rest, is) id = absurd (none-some (emptied waits s') (sym rest))
  told_at clients notes notes' slot (Some s) None here (h, left, rest, is) id = absurd (none-some (emptied waits s) rest)
  told_at clients notes notes' slot (Some s) (Some s') here (h, left, rest, is) id = at (same_client target id) refl
    where
      target : ClientParts
      target = record { slot = slot; serial = s.serial }

      clients' : List (Option (Stored T U C))
      clients' = slice_set clients slot (Some s')

      serial : s'.serial ≡ s.serial
      serial = ap (λ (e : Stored T U C). e.serial) (same_Some (emptied waits s') (emptied waits s) rest)

      now : notes_of id notes' ≡ notes_of id notes ++ notes_of id (map (note_of target) (h ∷ []))
      now = grind (arith, notes_append id notes (map (note_of target) (h ∷ [])))

      at : (b : Bool) → same_client target id ≡ b → ToldOf clients notes clients' notes' id
      at true same =
          grind (arith, now, notes_same target id (h ∷ []) same, append_assoc, client_present, same_is target id same, get_set_same, here, serial)
      at false other =
          grind (arith, now, notes_other target id (h ∷ []) other, append-nil, client_other clients target id s s' here serial refl other)

  -- a note of the client of one slot was moved
  pub gathers_at : (clients : List (Option (Stored T U C))) (notes notes' : List (Note U)) (slot : ℕ) (x x' : Option (Stored T U C))
      → slice_get clients slot ≡ Some x
      → MovesNote waits slot x notes x' notes' → Gathers waits clients notes (slice_set clients slot x') notes'
  gathers_at clients notes notes' slot x x' here (h, left, rest, is) = record {
    rest = map_set (option_map (emptied waits)) clients slot x x' here rest;
    told = told_at clients notes notes' slot x x' here (h, left, rest, is);
    count = grind (arith, length-append, length-map, count_set clients slot x x' here);
  }
