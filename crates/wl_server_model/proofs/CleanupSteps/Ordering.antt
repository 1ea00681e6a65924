-- The places of the notes that are gathered: how many there are of each slot, and how many are left.
use Rattle.std.proofs.Common.{◌≡◌, ℕ, get_or, zero, suc, ◌+◌, ◌<◌, ◌≤◌, Bool, true, false, List, [], ◌∷◌, ◌++◌, length, map, drop, take, Option, Some, refl, sym, ap, ◌∙◌, append_assoc, append-nil, arith}
use Rattle.std.specs.Prelude.{◌==◌, if◌then◌else◌, slice_get, slice_set}
use Rattle.std.specs.List.Sorted.{IsPermutation}
use Rattle.std.proofs.lemmas.Bool.{eqb-true, eq-eqb, ne_eqb, cases_lt}
use Rattle.std.proofs.lemmas.List.{length-append, length-map, map-append, nil_from_length, drop_all, take_more, drop_more}
use Rattle.std.proofs.lemmas.List.Sorted.{sum_by-IsPermutation}
use Rattle.std.proofs.lemmas.List.Sums.{sum_by-append, sum_by-cons}
use Rattle.wl_server_client.specs.declared.notes.Happening.{Happening}
use Rattle.wl_server_client.specs.declared.notes.Note.{Note}
use Rattle.wl_server_client.specs.declared.notes.queues.NotePlace.{NotePlace}
use Rattle.wl_server_model.specs.Inside.Gathering.{AllLeft, MovesNote}
use Rattle.wl_server_model.specs.NoteOrder.{Along, IsOrderOf, all_places, places_at, slot_of, times_at}
use Rattle.wl_server_client.specs.NoteTimes.{place_at, places_of, times_of, to_gather}
use Rattle.wl_server_client.specs.Inside.NoteTimes.{AreNumbered, place_of}
use Rattle.wl_server_model.specs.Inside.NoteOrder.{NoneNumbered, count_places}
use Rattle.wl_server_client.specs.Stored.{NoteTimes, Stored, no_times}
use Rattle.wl_server_model.specs.Server.{stored_at}
use Rattle.wl_sets.proofs.Lists.{get_set_other, get_set_same, other_of}
use Rattle.wl_server_model.proofs.CleanupSteps.Gathering.{rest_at}
use Rattle.wl_server_model.proofs.CallSteps.Slots.{stored_is, stored_past}
use Rattle.wl_server_model.proofs.CallSteps.Numbering.{times_stored}

-- ---- lists of places

places_cons : (k : ℕ) (p : NotePlace) (order : List NotePlace) → places_at k (p ∷ order) ≡ (if p.slot == k then 1 else 0) + places_at k order
places_cons k p order = sum_by-cons (λ (q : NotePlace). if q.slot == k then 1 else 0) p order

pub places_moved : (k : ℕ) (order order' : List NotePlace) → IsPermutation order order' → places_at k order' ≡ places_at k order
places_moved k order order' moves = sum_by-IsPermutation (λ (p : NotePlace). if p.slot == k then 1 else 0) order order' moves

pub places_by_number : {U : Type 0} (waits : Bool) (slot : ℕ) (notes : List (ℕ × Happening U))
    → map (place_of waits slot) notes ≡ map (place_at waits slot) (map (λ n. n.0) notes)
places_by_number waits slot [] = refl
places_by_number waits slot (n ∷ notes) = ap (λ (l : List NotePlace). place_of waits slot n ∷ l) (places_by_number waits slot notes)

no_places : (waits : Bool) (slot : ℕ) (ts : List NoteTimes) → count_places waits ts ≤ 0 → all_places waits slot ts ≡ []
no_places waits slot [] few = refl
no_places waits slot (t ∷ ts) few =
    grind (arith, length-append, place_at, length-map, all_places, nil_from_length, places_of, no_places waits (slot + 1) ts)

-- ---- the places of a client's notes

-- how many places a slot has among those of a client's notes
at_place : (waits : Bool) (slot k : ℕ) (ns : List ℕ) → places_at k (map (place_at waits slot) ns) ≡ (if slot == k then length ns else 0)
at_place waits slot k [] = grind (arith, slot == k)
at_place waits slot k (n ∷ ns) =
    let one : places_at k (map (place_at waits slot) (n ∷ ns)) ≡ (if slot == k then 1 else 0) + places_at k (map (place_at waits slot) ns) =
    places_cons k (place_at waits slot n) (map (place_at waits slot) ns) in
    grind (arith, one, at_place waits slot k ns, slot == k)

module _ {U : Type 0} (slot k : ℕ) where
  pub put : (waits : Bool) (notes : List (ℕ × Happening U)) (order order' : List NotePlace) → order' ≡ order ++ map (place_of waits slot) notes
      → places_at k order' ≡ places_at k order + (if slot == k then length notes else 0)
  put waits notes order order' is = grind (arith, places_at, sum_by-append, map, place_of, places_by_number, at_place, length-map)

  pub put_both : (made waiting : List (ℕ × Happening U)) (order order' order'' : List NotePlace) → order' ≡ order ++ map (place_of false slot) made
      → order'' ≡ order' ++ map (place_of true slot) waiting
      → places_at k order'' ≡ places_at k order + (if slot == k then length (map (λ n. n.1) made ++ map (λ n. n.1) waiting) else 0)
  put_both made waiting order order' order'' is is' =
      grind (arith, length-append, length-map, slot == k, put false made order order' is, put true waiting order' order'' is')

-- all the places of a slot, among those of all clients, are of its client
past_places : (waits : Bool) (slot k : ℕ) (ts : List NoteTimes) → k < slot → places_at k (all_places waits slot ts) ≡ 0
past_places waits slot k [] past = refl
past_places waits slot k (t ∷ ts) past =
    grind (arith, sum_by-append, places_of, all_places, map, place_at, length-append, at_place, length-map, ne_eqb, past_places waits (slot + 1) k ts)

pub places_among : (waits : Bool) (slot k n : ℕ) (ts : List NoteTimes) → n ≡ slot + k
    → places_at n (all_places waits slot ts) ≡ length (places_of waits 0 (times_at k ts))
places_among waits slot k n [] at = grind (arith, places_of, no_times)
places_among waits slot zero n (t ∷ ts) at =
    grind (arith, sum_by-append, places_of, all_places, map, place_at, length-append, at_place, length-map, eq-eqb, past_places)
places_among waits slot (suc k) n (t ∷ ts) at = grind (arith, sum_by-append, places_of, all_places, map, place_at, length-append, at_place, length-map, ne_eqb, places_among waits (slot + 1) k n ts)

-- ---- the places of all clients

module _ {T U C : Type 0} (waits : Bool) where
  -- each slot below this one has as many places as its client has notes, and the others have none
  pub record Placed (clients : List (Option (Stored T U C))) (slot : ℕ) (order : List NotePlace) : Type 0 where
    pub below : (k : ℕ) → k < slot → places_at k order ≡ length (to_gather waits (stored_at k clients))
    pub past : (k : ℕ) → slot ≤ k → places_at k order ≡ 0

  pub placed_more : (clients : List (Option (Stored T U C))) (slot : ℕ) (x : Option (Stored T U C)) (order order' : List NotePlace)
      → slice_get clients slot ≡ Some x
      → Placed clients slot order → ((k : ℕ) → places_at k order' ≡ places_at k order + (if slot == k then length (to_gather waits x) else 0))
      → Placed clients (slot + 1) order'
  placed_more clients slot x order order' here placed put = grind (arith, places_at, to_gather, stored_at, eqb-true, stored_is, other_of)

  -- each slot has as many places as its client has notes
  abbrev pub Left : List (Option (Stored T U C)) → List NotePlace → Type 0
  Left clients order = (k : ℕ) → places_at k order ≡ length (to_gather waits (stored_at k clients))

  pub placed_all : (clients : List (Option (Stored T U C))) (slot : ℕ) (order : List NotePlace) → length clients ≤ slot → Placed clients slot order
      → Left clients order
  placed_all clients slot order ends placed k = grind (arith, cases_lt, places_at, to_gather, stored_at, stored_past)

  -- ---- places that are left

  next_count : (clients : List (Option (Stored T U C))) (order : List NotePlace) (i : ℕ) (d : NotePlace) → i < length order → Left clients
      (drop i order) → (k : ℕ)
      → length (to_gather waits (stored_at k clients)) ≡ (if (get_or order i d).slot == k then 1 else 0) + places_at k (drop (i + 1) order)
  next_count clients order i d within left k =
      sym (left k) ∙ (ap (places_at k) (drop_more order i d within) ∙ places_cons k (get_or order i d) (drop (i + 1) order))

  -- ---- the numbers that are left

  pub none_numbered : (clients : List (Option (Stored T U C))) (order : List NotePlace) → order ≡ [] → Left clients order
      → ((k : ℕ) → AreNumbered waits (stored_at k clients))
      → NoneNumbered waits (map times_of clients)
  none_numbered clients order none left numbered k = grind (arith, left k, numbered k, places_at, places_of, times_stored clients k, nil_from_length)

  -- ---- a round of the loop that gathers

  pub place_within : (clients : List (Option (Stored T U C))) (order : List NotePlace) (i n : ℕ) (d : NotePlace) → i < length order
      → n ≡ (get_or order i d).slot
      → Left clients (drop i order) → n < length clients
  place_within clients order i n d within is left = grind (arith, next_count clients order i d within left n, eq-eqb, stored_past)

  pub place_some : (clients : List (Option (Stored T U C))) (order : List NotePlace) (i n : ℕ) (d : NotePlace) (x : Option (Stored T U C))
      → i < length order
      → n ≡ (get_or order i d).slot → slice_get clients n ≡ Some x → Left clients (drop i order) → 0 < length (to_gather waits x)
  place_some clients order i n d x within is there left = grind (arith, next_count clients order i d within left n, eq-eqb, stored_is)

  pub place_left : (clients : List (Option (Stored T U C))) (notes notes' : List (Note U)) (order : List NotePlace) (i n : ℕ) (d : NotePlace)
      (x x' : Option (Stored T U C))
      → i < length order → n ≡ (get_or order i d).slot → slice_get clients n ≡ Some x → MovesNote waits n x notes x' notes'
      → Left clients (drop i order)
      → Left (slice_set clients n x') (drop (i + 1) order)
  place_left clients notes notes' order i n d x x' within is there (h, one, rest, is') left k = at (n == k) refl
    where
      at : (b : Bool) → (n == k) ≡ b → places_at k (drop (i + 1) order) ≡ length (to_gather waits (stored_at k (slice_set clients n x')))
      at b same = grind (arith, eqb-true, next_count clients order i d within left k, to_gather, stored_is, get_set_same, get_set_other, other_of)

  -- there is no place where there is no note
  pub none_order : (clients : List (Option (Stored T U C))) (order : List NotePlace) → order ≡ [] → AllLeft waits clients
      → count_places waits (map times_of clients) ≤ 0
      → IsOrderOf waits clients order
  none_order clients order none left few = grind (arith, slice_get, to_gather, no_places, times_of)

  -- ---- the places, client by client

  -- the places so far, and those that are left
  pub placed_so_far : (clients : List (Option (Stored T U C))) (k : ℕ) (x : Option (Stored T U C)) (order order' : List NotePlace)
      → slice_get clients k ≡ Some x
      → order ++ all_places waits k (map times_of (drop k clients)) ≡ all_places waits 0 (map times_of clients)
      → order' ≡ order ++ places_of waits k (times_of x)
      → order' ++ all_places waits (k + 1) (map times_of (drop (k + 1) clients)) ≡ all_places waits 0 (map times_of clients)
  placed_so_far clients k x order order' here before is = grind (arith, all_places, times_of, append_assoc, places_of, rest_at)

  pub placed_whole : (clients : List (Option (Stored T U C))) (k : ℕ) (order order' : List NotePlace) → length clients ≤ k
      → order ++ all_places waits k (map times_of (drop k clients)) ≡ all_places waits 0 (map times_of clients) → IsPermutation order order'
      → IsPermutation (all_places waits 0 (map times_of clients)) order'
  placed_whole clients k order order' past before moved = grind (arith, append-nil, all_places, times_of, drop_all)

pub along_more : {U : Type 0} (start now now' : List (Note U)) (order : List NotePlace) (i n : ℕ) (d : NotePlace) → i < length order
    → n ≡ (get_or order i d).slot
    → Along start now (take i order) → (one : List (Note U)) × (now' ≡ now ++ one) × (map slot_of one ≡ n ∷ [])
    → Along start now' (take (i + 1) order)
along_more start now now' order i n d within is (more, behind, along) (one, added, slots) =
    (more ++ one, added ∙ (ap (λ l. l ++ one) behind ∙ append_assoc start more one), simp (take_more order i d within, map-append, along, slots, is))
