-- The notes of all clients over a run: those that were made at an earlier point come first, and so do those that waited.
use Rattle.std.proofs.Common.{◌≡◌, ◌∙◌, ℕ, ◌<◌, ◌≤◌, Bool, true, false, List, [], ◌∷◌, ◌++◌, length, map, Option, None, Some, is_some, Ok, Vec, refl, sym, ap, subst, arith, append_assoc, append-nil, Result}
use mathlib.Core.Logic.{inl, inr}
use Rattle.std.specs.Global.{Global}
use Rattle.std.specs.List.{sum_by}
use Rattle.std.specs.Option.{option_map}
use Rattle.std.specs.Prelude.{◌⊎◌, ◌==◌}
use Rattle.std.proofs.lemmas.Bool.{eq-eqb, eqb-true, false≢true}
use Rattle.std.proofs.lemmas.List.{append_cancel_left, length-append, map-append}
use Rattle.std.proofs.lemmas.List.Sums.{sum_by-cons}
use Rattle.std.proofs.lemmas.Option.{none-some}
use Rattle.wl_wire.specs.Table.{InterfaceRow}
use Rattle.wl_wire.specs.declared.error.IoFault.{IoFault}
use Rattle.wl_link.specs.Exchange.{Queue}
use Rattle.wl_server_client.specs.declared.notes.Happening.{Happening}
use Rattle.wl_server_client.specs.declared.notes.Happening.TheVariants as happened
use Rattle.wl_server_client.specs.declared.notes.Note.{Note}
use Rattle.wl_server_client.specs.declared.notes.queues.NoteNumbers.{NoteNumbers}
use Rattle.wl_server_client.specs.declared.notes.queues.NotePlace.{NotePlace}
use Rattle.wl_server_model.specs.declared.step.Reply.TheVariants as reply
use Rattle.wl_server_model.specs.declared.step.Step.TheVariants as step
use Rattle.wl_server_model.specs.Identified.{waiting_of}
use Rattle.wl_server_client.specs.Ids.{ClientParts, same_client}
use Rattle.wl_server_model.specs.NoteOrder.{AllNumbered, AllTakeFirst, HasNumbers, slot_of, times_at}
use Rattle.wl_server_client.specs.NoteTimes.{RiseWithin, last_number, times_of}
use Rattle.wl_server_model.specs.NoteOrder.Ordered.{CleansNothing, EarlierNotesFirst, EarlierWaitFirst, HandsOutNone, LeavesNotes, NoneHandedOut, NothingCleaned}
use Rattle.wl_server_client.specs.Part.{Part, note_of_end}
use Rattle.wl_server_model.specs.PartStep.{Asked, Call, PartCall, World}
use Rattle.wl_server_model.specs.Runs.{Leads, concerns}
use Rattle.wl_server_model.specs.Server.{Seen, ServerState, client_at, if_serial, new_server, notes_of, seen, stored_at, told_of}
use Rattle.wl_server_client.specs.Stored.{Stored}
use Rattle.wl_server_model.specs.Steps.{Entry, GathersNotes, NotesGoOn, OneStep}
use Rattle.wl_server_client.proofs.CallSteps.Numbers.{GivesWithin, rise_up, within_both, within_none}
use Rattle.wl_server_model.proofs.CallSteps.Numbering.{all_each, each_turn, times_stored, no_numbers, numbers_left, waiting_anew}
use Rattle.wl_server_model.proofs.CallSteps.Slots.{same_slots}
use Rattle.wl_server_model.proofs.CleanupSteps.Gathering.{notes_append}
use Rattle.wl_server_model.proofs.OverRuns.Alone.IsolationLaw.{numbered, other_call}
use Rattle.wl_server_model.proofs.OverRuns.Moves.BaseMoves.{Doings, Goes, Kind, Moves, any, followed, handed_out, moved, notes_taken, stayed, taken_out, unfelt, within}
use Rattle.wl_server_model.proofs.OverRuns.Moves.BaseMovesLaw.{any_moves, call_goes}
use Rattle.wl_server_model.proofs.OverRuns.Noted.NotesInOrder.{Takes, begins_so, id_of, made_of, note_is, one_client, own_first, slot_is, takes_of, told_so}
use Rattle.wl_server_model.proofs.OverRuns.Noted.PlacesInOrder.{IsOf, earlier_first, kind_of, of_kind, of_made, only, parted, sorted_of, in_slot}
use Rattle.wl_server_model.proofs.OverRuns.Outcome.SameNotes.{fronts_one}
use Rattle.wl_server_model.proofs.OverRuns.Outcome.WholeLaws.{same_client_is}

-- ---- lists

abbrev Grown : {A : Type 0} → List A → List A → Type 0
Grown {A} a b = (more : List A) × (b ≡ a ++ more)

grown_still : {A : Type 0} (a b : List A) → b ≡ a → Grown a b
grown_still a b is = ([], is ∙ sym (append-nil a))

grown_both : {A : Type 0} (a b c : List A) → Grown a b → Grown b c → Grown a c
grown_both a b c (m, is) (n, is') = (m ++ n, is' ∙ (ap (λ l. l ++ n) is ∙ append_assoc a m n))

-- a list is split where what is read of its elements is
split_at : {A : Type 0} (f : A → ℕ) (xs : List A) (ms ns : List ℕ) → map f xs ≡ ms ++ ns
    → (a : List A) × (b : List A) × (xs ≡ a ++ b) × (map f a ≡ ms) × (map f b ≡ ns)
split_at f xs [] ns is = ([], xs, refl, refl, is)
split_at f [] (m ∷ ms) ns is = absurd cc
split_at f (x ∷ xs) (m ∷ ms) ns is =
    let here : f x ≡ m = cc in
    let (a, b, are, one, two) = split_at f xs ms ns (cc) in
    (x ∷ a, b, ap (λ l. x ∷ l) are, ap (λ k. k ∷ map f a) here ∙ ap (λ l. m ∷ l) one, two)

whole : {A : Type 0} {all told more : List A} (notes made waited ends : List A) → all ≡ told ++ ends → told ≡ notes ++ more → more ≡ made ++ waited
    → all ≡ notes ++ (made ++ (waited ++ ends))
whole notes made waited ends one two three = grind (arith, append_assoc)

none_parts : {A : Type 0} (a b c : List A) → a ++ (b ++ c) ≡ [] → (a ≡ []) × (b ≡ [])
none_parts [] [] c is = (refl, refl)
none_parts a b c is = absurd cc

sum_ones : {A : Type 0} (xs : List A) → sum_by (λ x. 1) xs ≡ length xs
sum_ones [] = refl
sum_ones {A} (x ∷ xs) = omega (arith, sum_by-cons (λ (x : A). 1) x xs, sum_ones xs)

-- ---- the notes of one kind: those that were made, and those that wait

abbrev next_of : Bool → NoteNumbers → ℕ
next_of true n = n.waiting
next_of false n = n.made

abbrev slots_of : List NotePlace → List ℕ
slots_of ps = map (λ p. p.slot) ps

module _ {T U G C : Type 0} where
  abbrev held_of : Bool → ClientParts → ServerState T U G C → List (Happening U)
  held_of true id s = waiting_of (seen id s).part
  held_of false id s = made_of id s.clients

  held_stored : (v : Bool) (id : ClientParts) (s : ServerState T U G C) (h : Happening U) (hs : List (Happening U)) → held_of v id s ≡ h ∷ hs
      → is_some (client_at id s.clients) ≡ true
  held_stored v id s h hs is = grind (arith, v, client_at id s.clients, made_of, seen)

  -- these are the notes of that kind, in order of time
  record Lists (v : Bool) (s : ServerState T U G C) (notes : List (Note U)) : Type 0 where
    order : List NotePlace
    of : IsOf v (map times_of s.clients) order
    along : map slot_of notes ≡ slots_of order
    each : (id : ClientParts) → notes_of id notes ≡ held_of v id s

  abbrev numbers_of : Bool → ServerState T U G C → ℕ → List ℕ
  numbers_of v s slot = kind_of v (times_at slot (map times_of s.clients))

  abbrev Gives : Bool → ServerState T U G C → ServerState T U G C → ℕ → Type 0
  Gives v s t slot = GivesWithin (numbers_of v s slot) (next_of v s.numbers) (numbers_of v t slot) (next_of v t.numbers)

  -- from one state to a later one, such notes were added, and none was taken
  record Adds (v : Bool) (s t : ServerState T U G C) : Type 0 where
    times : (slot : ℕ) → Gives v s t slot
    each : (id : ClientParts) → Grown (held_of v id s) (held_of v id t)

  adds_none : (v : Bool) (s : ServerState T U G C) → Adds v s s
  adds_none v s = record { times = λ slot. within_none _ _ _ (λ below. omega arith); each = λ id. grown_still (held_of v id s) (held_of v id s) refl }

  adds_both : (v : Bool) (s t u : ServerState T U G C) → Adds v s t → Adds v t u → Adds v s u
  adds_both v s t u one two = record {
    times = λ slot. within_both _ _ _ _ _ _ (one.times slot) (two.times slot);
    each = λ id. grown_both (held_of v id s) (held_of v id t) (held_of v id u) (one.each id) (two.each id);
  }

  -- as many numbers as notes, and in order
  abbrev IsSound : ServerState T U G C → Type 0
  IsSound s = HasNumbers s.numbers (map times_of s.clients) × AllNumbered s.clients

  rises : (v : Bool) (s : ServerState T U G C) → IsSound s → next_of v s.numbers < last_number → (slot : ℕ)
      → RiseWithin 0 (numbers_of v s slot) (next_of v s.numbers)
  rises true s sound below = (sound.0.waiting below).rise
  rises false s sound below = (sound.0.made below).rise

  -- those of an earlier point come first
  lists_later : (v : Bool) (s t : ServerState T U G C) (a b : List (Note U)) → IsSound s → Lists v s a → Lists v t b → Adds v s t
      → next_of v t.numbers < last_number → (rest : List (Note U)) × (b ≡ a ++ rest)
  lists_later v s t a b sound first second adds below =
      let up = rise_up (next_of v s.numbers) (adds.times 0).more (next_of v t.numbers) ((adds.times 0).rise below) in
      let (rest, behind) = earlier_first v (map times_of s.clients) (map times_of t.clients) first.order second.order (next_of v s.numbers)
      (next_of v t.numbers) first.of second.of (rises v s sound (omega (arith, up, below)))
      (λ slot. let gives = adds.times slot in (gives.more, gives.behind, gives.rise below)) in
      begins_so (λ id. is_some (client_at id t.clients) ≡ true) (one_client t.clients) a b (slots_of rest)
      (grind (arith, first.along, second.along, behind, map-append (λ (p : NotePlace). p.slot) first.order rest))
      (λ id. let (more, grown) = adds.each id in (more, (grind (arith, first.each id, second.each id, grown))))
      (λ id h hs told. held_stored v id t h hs (sym (second.each id) ∙ told))

  takes_list : (s : ServerState T U G C) (out : List (Note U)) (takes : Takes s out) → Lists false s takes.more
  takes_list s out takes =
      record { order = takes.order; of = of_made _ takes.order takes.rise takes.places; along = takes.along; each = takes.each }

-- ---- what a cleanup gathers

module _ {T U C : Type 0} (clients : List (Option (Stored T U C))) where
  -- only stored clients are told of
  abbrev IsOfStored : List (Note U) → Type 0
  IsOfStored m = (id : ClientParts) → client_at id clients ≡ None → notes_of id m ≡ []

  -- as many notes are told of a client as its slot has places
  slot_count : (id : ClientParts) (m : List (Note U)) (ps : List NotePlace) → map slot_of m ≡ slots_of ps → is_some (client_at id clients) ≡ true
      → IsOfStored m → length (notes_of id m) ≡ sum_by (in_slot id.slot (λ p. 1)) ps
  slot_count id [] [] along here none = refl
  slot_count id (n ∷ m) (p ∷ ps) along here none = step (slot_count id m ps (cc) here (λ j gone. behind j (none j gone)))
    where
      behind : (j : ClientParts) → notes_of j (n ∷ m) ≡ [] → notes_of j m ≡ []
      behind j is = grind (arith, told_of, notes_of)

      step : length (notes_of id m) ≡ sum_by (in_slot id.slot (λ p. 1)) ps → length (notes_of id (n ∷ m)) ≡ sum_by (in_slot id.slot (λ p. 1)) (p ∷ ps)
      step rest =
          let count = sum_by-cons (in_slot id.slot (λ p. 1)) p ps in
          let at : slot_of n ≡ p.slot = cc in
          let own = own_first n m in
          let stored = one_client clients (id_of n) id in
          let gone = none (id_of n) in
          grind (arith, count, at, own, stored, gone, eqb-true, client_at (id_of n) clients, slot_is n, note_is n, same_slots, told_of, slot_of n == id.slot)
  slot_count id m ps along here none = absurd cc

module _ {T U G C : Type 0} where
  -- the notes of a client among those of one kind
  long : (v : Bool) (s : ServerState T U G C) → AllNumbered s.clients → (order : List NotePlace) → IsOf v (map times_of s.clients) order
      → (m : List (Note U))
      → map slot_of m ≡ slots_of order → IsOfStored s.clients m → (id : ClientParts) → length (notes_of id m) ≡ length (held_of v id s)
  long v s all order of m along none id = at (client_at id s.clients) refl
    where
      numbers : (c : Stored T U C) → client_at id s.clients ≡ Some c → length (numbers_of v s id.slot) ≡ length (held_of v id s)
      numbers c here = grind (arith, v, times_stored s.clients id.slot, all id.slot, here, stored_at id.slot s.clients, made_of, seen)

      at : (o : Option (Stored T U C)) → client_at id s.clients ≡ o → length (notes_of id m) ≡ length (held_of v id s)
      at None gone = grind (arith, none id gone, v, made_of, seen)
      at (Some c) here =
          slot_count s.clients id m order along (ap is_some here) none ∙
          (of.counts (λ p. 1) id.slot ∙ (sum_ones (numbers_of v s id.slot) ∙ numbers c here))

  -- what a cleanup gathers; the notes that were made, and those that waited, are in order of time
  record Gathers (s t : ServerState T U G C) : Type 0 where
    leaves : LeavesNotes s t
    made : List (Note U)
    behind : leaves.made ≡ s.notes ++ made
    mades : Lists false s made
    waits : Lists true s leaves.waited

module _ {T U G C : Type 0} (w : World T G C) where
  gathers : (s : ServerState T U G C) (e : Entry T U G C) (after : ServerState T U G C) (out : Vec (ClientParts × T) Global)
      → e.call ≡ Asked step.Cleanup (reply.Cleanup (Ok out)) → OneStep w s e after → AllNumbered s.clients → Gathers s after
  gathers s e after out is one all =
      let h : GathersNotes s after = subst (λ (call : Call T U G C). NotesGoOn s call after) is one.notes in
      let (order, ordered, (more, behind, along)) = h.in_order in
      let of : (v : Bool) → IsOf v (map times_of s.clients) (only v order) = λ v. of_kind v _ order ordered.rise ordered.numbers in
      let (made, waited, halves, mades, waits) = split_at slot_of more (slots_of (only false order)) (slots_of (only true order))
      (along ∙ (ap slots_of (parted order (sorted_of order ordered.rise)) ∙ map-append (λ (p : NotePlace). p.slot) (only false order)
      (only true order))) in
      let are : after.notes ≡ s.notes ++ (made ++ (waited ++ h.ends)) = whole s.notes made waited h.ends h.behind behind halves in
      let told = told_so w s e after out is one (made ++ (waited ++ h.ends)) are in
      let three = λ (id : ClientParts). notes_append id made (waited ++ h.ends)
      ∙ ap (λ (l : List (Happening U)). notes_of id made ++ l) (notes_append id waited h.ends) in
      let none = λ (j : ClientParts) (gone : client_at j s.clients ≡ None).
      none_parts (notes_of j made) (notes_of j waited) (notes_of j h.ends) (sym (three j) ∙ (told j).2 gone) in
      let fronts = λ (id : ClientParts).
      fronts_one (notes_of id made) (notes_of id waited ++ notes_of id h.ends) (made_of id s.clients) (held_of true id s ++ (told id).0)
      (sym (three id) ∙ (told id).1) (long false s all (only false order) (of false) made mades (λ j gone. (none j gone).0) id) in
      let ends = λ (id : ClientParts). fronts_one (notes_of id waited) (notes_of id h.ends) (held_of true id s) (told id).0 (fronts id).1
      (long true s all (only true order) (of true) waited waits (λ j gone. (none j gone).1) id) in
      record {
        leaves = record {
          made = s.notes ++ made;
          waited = waited;
          ends = h.ends;
          are = are ∙ sym (append_assoc s.notes made (waited ++ h.ends));
          each_made = λ id. notes_append id s.notes made ∙ ap (λ (l : List (Happening U)). notes_of id s.notes ++ l) (fronts id).0;
          each_waited = λ id. (ends id).0;
        };
        made = made;
        behind = refl;
        mades = record { order = only false order; of = of false; along = mades; each = λ id. (fronts id).0 };
        waits = record { order = only true order; of = of true; along = waits; each = λ id. (ends id).0 };
      }

-- ---- what a call adds

-- no notes are handed out
abbrev keeping : Kind
keeping = record { gathers = true; hands = false; reads = true; finishes = true; kills = λ reason. Unit {0}; closes = tt }

module _ {T U C : Type 0} (sends : T → Queue → Result ℕ IoFault → T → Type 0) (receives : T → ℕ → Result Queue IoFault → T → Type 0)
    (client : ClientParts) where
  moves_grow : (p q : Part T U C) (d : Doings U) → Moves (any false) sends receives client p d q → Grown p.waiting q.waiting
  moves_grow p q d (stayed is same) = grown_still p.waiting q.waiting (ap (λ (x : Part T U C). x.waiting) same)
  moves_grow p q d (followed {m = m} {a = a} {b = b} first second is) =
      grown_both p.waiting m.waiting q.waiting (moves_grow p m a first) (moves_grow m q b second)
  moves_grow p q d (handed_out {a = a} ids moves among is) = moves_grow p q a moves
  moves_grow p q d (moved move) = grind (arith, false≢true, grown_still, note_of_end)

  waiting_grows : (s t : Seen T U C) (d : Doings U) → Goes (any false) sends receives client s d t → Grown (waiting_of s.part) (waiting_of t.part)
  waiting_grows s t d h1 = grind (arith, unfelt, grown_still, within, moves_grow, taken_out, notes_taken)

  made_grows : (s t : Seen T U C) (d : Doings U) → Goes keeping sends receives client s d t → Grown s.made t.made
  made_grows s t d h1 = grind (arith, unfelt, append-nil, within, taken_out, notes_taken)

module _ {T U C : Type 0} where
  abbrev part_in : Option (Stored T U C) → Option (Part T U C)
  part_in o = option_map (λ c. c.part) o

  same_part : (a b : Option (Stored T U C)) → ((serial : ℕ) → part_in (if_serial serial a) ≡ part_in (if_serial serial b)) → part_in a ≡ part_in b
  same_part None None same = refl
  same_part (Some x) b same = grind (arith, same x.serial, eq-eqb x.serial x.serial refl)
  same_part None (Some y) same = grind (arith, same y.serial, eq-eqb y.serial y.serial refl)

module _ {T U G C : Type 0} where
  -- the call takes no notes of that kind
  abbrev Keeps : Bool → Call T U G C → Type 0
  Keeps v call = CleansNothing call × (v ≡ false → HandsOutNone call)

  -- what is left of the numbers of those that wait is all of them
  same_waiting : (s t : ServerState T U G C) → ((id : ClientParts) → (seen id t).part ≡ (seen id s).part) → AllNumbered s.clients
      → AllNumbered t.clients → AllTakeFirst (map times_of s.clients) (map times_of t.clients) → (k : ℕ) → numbers_of true t k ≡ numbers_of true s k
  same_waiting s t parts one two first k =
      let same = same_part (stored_at k s.clients) (stored_at k t.clients) (λ serial. sym (parts (record { slot = k; serial = serial }))) in
      let taken = length-append (first k).waiting (numbers_of true t k) in
      (fronts_one (first k).waiting (numbers_of true t k) [] (numbers_of true s k) (sym (first k).of_waiting)
      (grind (arith, times_stored, one k, two k, same, taken, (first k).of_waiting))).1

module _ {T U G C : Type 0} (w : World T G C) where
  step_times : (v : Bool) (s : ServerState T U G C) (e : Entry T U G C) (t : ServerState T U G C) → OneStep w s e t → Keeps v e.call
      → AllNumbered s.clients → (k : ℕ) → Gives v s t k
  step_times v s e t one keeps all k = at v e.call one.notes keeps one.each
    where
      at : (v : Bool) (call : Call T U G C) → NotesGoOn s call t → Keeps v call
          → ((id : ClientParts) → PartCall w id s.offer call (seen id s) (e.lacks id) (e.did id) (seen id t)) → Gives v s t k
      at true (Asked step.TakeNotes (reply.TakeNotes (Ok out))) h keeps each =
          let same = same_waiting s t (λ id. let (r, is, h) = each id in grind (arith)) all h.numbered h.first k in
          grind (arith, within_none, h.numbers, same)
      at false (Asked step.TakeNotes (reply.TakeNotes (Ok out))) h keeps each = absurd (keeps.1 refl out refl)
      at v (Asked step.Cleanup (reply.Cleanup (Ok out))) h keeps each = absurd (keeps.0 out refl)
      at true _ h keeps each = let (slots, all) = h.times in each_turn (λ t. t.waiting) slots k _ _ _ _ all.waiting (all.others k)
      at false _ h keeps each = all_each _ _ _ _ h.times k

  step_waits : (s : ServerState T U G C) (e : Entry T U G C) (t : ServerState T U G C) → OneStep w s e t → CleansNothing e.call → (id : ClientParts)
      → Grown (held_of true id s) (held_of true id t)
  step_waits s e t one none id = at (seen id s).part (concerns id e.call) refl refl
    where
      at : (o : Option (Part T U C)) (b : Bool) → (seen id s).part ≡ o → concerns id e.call ≡ b → Grown (held_of true id s) (held_of true id t)
      at None b is about = (held_of true id t, sym (ap (λ (l : List (Happening U)). l ++ held_of true id t) (ap waiting_of is)))
      at (Some p) true is about =
          waiting_grows w.sends w.receives id (seen id s) (seen id t) _
          (call_goes false w id s.offer e.call (seen id s) (e.lacks id) (e.did id) (seen id t) about (one.each id)
          (λ cleans. (grind (arith, e.call))))
      at (Some p) false is far =
          grind (arith, grown_still, waiting_of, other_call, seen, same_client, numbered, stored_at, same_client_is, none-some, option_map, if_serial)

  step_made : (s : ServerState T U G C) (e : Entry T U G C) (t : ServerState T U G C) → OneStep w s e t → HandsOutNone e.call → t.notes ≡ s.notes
      → (id : ClientParts) → Grown (held_of false id s) (held_of false id t)
  step_made s e t one none same id =
      elim (any_moves keeping w id s.offer e.call (seen id s) (e.lacks id) (e.did id) (seen id t) (grind (arith, false≢true)) (one.each id)) [
        | inl (ids, goes) ↦ less (made_grows w.sends w.receives id (seen id s) (seen id t) _ goes)
        | inr (p, none_waits, empty, did_so, same) ↦ less (happened.Initialized ∷ [], ap (λ (x : Seen T U C). x.made) same)
      ]
    where
      less : Grown (seen id s).made (seen id t).made → Grown (held_of false id s) (held_of false id t)
      less (more, is) = (more, (grind (arith, append_cancel_left, notes_of, made_of, append_assoc)))

  step_adds : (v : Bool) (s : ServerState T U G C) (e : Entry T U G C) (t : ServerState T U G C) → OneStep w s e t → Keeps v e.call
      → AllNumbered s.clients → Adds v s t
  step_adds true s e t one keeps all = record { times = step_times true s e t one keeps all; each = step_waits s e t one keeps.0 }
  step_adds false s e t one keeps all =
      record { times = step_times false s e t one keeps all; each = step_made s e t one (keeps.1 refl) (grind (arith, e.call)) }

-- ---- runs

module _ {T U G C : Type 0} (w : World T G C) where
  sound_on : (s : ServerState T U G C) (call : Call T U G C) (t : ServerState T U G C) → NotesGoOn s call t → IsSound s → IsSound t
  sound_on s (Asked step.TakeNotes (reply.TakeNotes (Ok out))) t h (has, all) = (rw h.numbers (numbers_left _ _ _ h.first has), h.numbered)
  sound_on s (Asked step.Cleanup (reply.Cleanup (Ok out))) t h (has, all) =
      (rw h.numbers (waiting_anew _ _ h.none_waits (numbers_left _ _ _ h.first has)), h.numbered)
  sound_on s _ t h (has, all) = (h.times.1.keeps has, h.numbered)

  sound_run : (s : ServerState T U G C) (run : List (Entry T U G C)) (t : ServerState T U G C) → Leads w s run t → IsSound s → IsSound t
  sound_run s [] t same sound = subst IsSound (sym same) sound
  sound_run s (e ∷ run) t (mid, one, leads) sound = sound_run mid run t leads (sound_on s e.call mid one.notes sound)

  run_adds : (s : ServerState T U G C) (run : List (Entry T U G C)) (t : ServerState T U G C) → Leads w s run t → NothingCleaned run → IsSound s
      → Adds true s t
  run_adds s [] t same none sound = subst (Adds true s) (sym same) (adds_none true s)
  run_adds s (e ∷ run) t (mid, one, leads) (none, later) sound =
      adds_both true s mid t (step_adds w true s e mid one (none, λ is. absurd (cc)) sound.1)
      (run_adds mid run t leads later (sound_on s e.call mid one.notes sound))

  pub earlier_wait_first : (table : List InterfaceRow) → EarlierWaitFirst U w table
  earlier_wait_first table done between point mid point' mid' early late refused refused' leads leads' none below (e, is, was, one)
      (f, is', was', two) =
      let sound = sound_run (new_server table) done point leads (no_numbers _, λ slot. (refl, refl)) in
      let first = gathers w point e point' early is one sound.1 in
      let second = gathers w mid f mid' late is' two (sound_run point between mid leads' sound).1 in
      let adds = run_adds point between mid leads' none sound in
      let later = lists_later true point mid first.leaves.waited second.leaves.waited sound first.waits second.waits adds below in
      (first.leaves, second.leaves, later.0, later.1)

  -- ---- notes that are handed out

  made_up : (s : ServerState T U G C) (call : Call T U G C) (t : ServerState T U G C) → NotesGoOn s call t → t.numbers.made < last_number
      → s.numbers.made ≤ t.numbers.made
  made_up s (Asked step.TakeNotes (reply.TakeNotes (Ok out))) t h below = grind (arith)
  made_up s (Asked step.Cleanup (reply.Cleanup (Ok out))) t h below = grind (arith)
  made_up s _ t h below = let more = all_each _ _ _ _ h.times 0 in rise_up s.numbers.made more.more t.numbers.made (more.rise below)

  module _ (s : ServerState T U G C) (first : List (Note U)) (sound : IsSound s) (lists : Lists false s first) where
    -- Since a point, none was gathered; or what would have been handed out there comes first.
    abbrev Since : ServerState T U G C → Type 0
    Since t =
        t.numbers.made < last_number → (Adds false s t × (t.notes ≡ s.notes)) ⊎ ((rest : List (Note U)) × (t.notes ≡ s.notes ++ (first ++ rest)))

    since_step : (t : ServerState T U G C) (e : Entry T U G C) (u : ServerState T U G C) → IsSound t → OneStep w t e u → HandsOutNone e.call
        → Since t → Since u
    since_step t e u sound' one none since below = at e.call refl one.notes (since before)
      where
        before : t.numbers.made < last_number
        before = let up = made_up t e.call u one.notes below in omega (arith, up, below)

        at : (call : Call T U G C) → e.call ≡ call → NotesGoOn t call u
            → (Adds false s t × (t.notes ≡ s.notes)) ⊎ ((rest : List (Note U)) × (t.notes ≡ s.notes ++ (first ++ rest)))
            → (Adds false s u × (u.notes ≡ s.notes)) ⊎ ((rest : List (Note U)) × (u.notes ≡ s.notes ++ (first ++ rest)))
        at (Asked step.TakeNotes (reply.TakeNotes (Ok out))) is h so = absurd (none out is)
        at (Asked step.Cleanup (reply.Cleanup (Ok out))) is h (inl (adds, same)) =
            let g = gathers w t e u out is one sound'.1 in
            let (rest, behind) = lists_later false s t first g.made sound lists g.mades adds before in
            grind (arith, append_assoc, g.leaves.are, g.behind)
        at (Asked step.Cleanup (reply.Cleanup (Ok out))) is h (inr (rest, begun)) = grind (arith, append_assoc)
        at call is h (inl (adds, same)) =
            let keeps : Keeps false e.call = (λ out cleans. (grind (arith)), λ e. none) in
            inl (adds_both false s t u adds (step_adds w false t e u one keeps sound'.1), (grind (arith)))
        at call is h (inr (rest, begun)) = grind (arith)

    since_run : (t : ServerState T U G C) (run : List (Entry T U G C)) (u : ServerState T U G C) → IsSound t → Leads w t run u → NoneHandedOut run
        → Since t → Since u
    since_run t [] u sound' same none since = subst Since (sym same) since
    since_run t (e ∷ run) u sound' (mid, one, leads) (none, later) since =
        since_run mid run u (sound_on t e.call mid one.notes sound') leads later (since_step t e mid sound' one none since)

  pub earlier_notes_first : (table : List InterfaceRow) → EarlierNotesFirst U w table
  earlier_notes_first table done between point mid point' mid' early late refused refused' leads leads' none below (e, is, was, one)
      (f, is', was', two) =
      let sound = sound_run (new_server table) done point leads (no_numbers _, λ slot. (refl, refl)) in
      let takes = takes_of w point e point' early is one in
      let takes' = takes_of w mid f mid' late is' two in
      let lists = takes_list point early.items takes in
      elim (since_run point takes.more sound lists point between mid sound leads' none (λ low. inl (adds_none false point, refl)) below) [
        | inl (adds, same) ↦
            let (rest, behind) = lists_later false point mid takes.more takes'.more sound lists (takes_list mid late.items takes') adds below in
            (rest, (grind (arith, append_assoc, takes.behind, takes'.behind, same, behind)))
        | inr (rest, begun) ↦ (rest ++ takes'.more, (grind (arith, append_assoc, takes.behind, takes'.behind, begun)))
      ]
