-- That each object that left is noted once, and each client that was killed: an induction over base moves. Each note of a destroyed
-- object is of one that left, and the end of a request notes at once what leaves by it.
use Rattle.std.proofs.Common.{◌≡◌, ℕ, ◌+◌, Bool, true, List, [], ◌∷◌, ◌++◌, append-nil, append_assoc, Option, Result, refl, sym, ap, subst, arith, zero, map, is_some, ◌∙◌, suc}
use Rattle.std.specs.Prelude.{IsPermutation, if◌then◌else◌, Contains}
use Rattle.std.proofs.lemmas.List.Sorted.{IsPermutation-append_comm, IsPermutation-append_left, IsPermutation-append_right, IsPermutation-refl, IsPermutation-trans, Contains-permutation, IsPermutation-sym}
use Rattle.wl_wire.specs.declared.error.IoFault.{IoFault}
use Rattle.wl_wire.specs.Table.{InterfaceRow}
use Rattle.wl_link.specs.declared.object.Object.{Object}
use Rattle.wl_link.specs.Exchange.{Queue, Sending}
use Rattle.wl_link.specs.Identity.{Id}
use Rattle.wl_server_client.specs.declared.objects.Kept.{Kept}
use Rattle.wl_server_client.specs.declared.notes.Happening.{Happening}
use Rattle.wl_server_client.specs.declared.notes.Happening.TheVariants.{Destroyed, Disconnected, Initialized}
use Rattle.wl_server_model.proofs.OverRuns.Moves.BaseMoves.{Doings, Goes, Moves, any, doings_of, followed, handed_by, handed_out, left_id, notes_taken, moved, stayed, taken_out, unfelt, within, Move, joined, putting}
use Rattle.wl_server_model.proofs.OverRuns.Moves.BaseMovesLaw.{call_goes}
use Rattle.wl_server_model.proofs.OverRuns.Ids.ChangeLaws.{moves_take}
use Rattle.wl_server_model.proofs.OverRuns.Moves.DoingsLaws.{doings_in_both, doings_in, end_of, told_deeds, verdict_done}
use Rattle.wl_server_client.specs.Globals.{Offer, new_offer}
use Rattle.wl_server_model.specs.Identified.{waiting_of}
use Rattle.wl_server_model.proofs.OverRuns.Ids.IdentityLaws.{own_ids}
use Rattle.wl_server_client.specs.Ids.{ClientParts, IdParts, same_client}
use Rattle.wl_server_model.proofs.OverRuns.Alone.IsolationLaw.{is_isolated}
use Rattle.wl_server_model.specs.NotedOnce.{EachIsNoted, destroyed_in, ended_times, ends_in, one_if}
use Rattle.wl_server_model.proofs.OverRuns.Alone.OwnRuns.{AreMine, are_mine}
use Rattle.wl_server_client.specs.Part.{Part, end_note, id_at, id_of, note_of_end, named}
use Rattle.wl_server_model.specs.PartStep.{World, Asked}
use Rattle.wl_server_model.specs.Runs.{Alone, Leads, Own, just_inserted, history, mine, offer_over}
use Rattle.wl_server_model.specs.Server.{Seen, ServerState, new_server, seen}
use Rattle.wl_server_model.specs.Steps.{Entry, offer_after, OneStep}
use mathlib.Core.Logic.{inl, inr}
use Rattle.wl_link.proofs.Calls.Branches.{either_option}
use Rattle.wl_link.specs.Puts.{Said}
use Rattle.wl_link.specs.Reader.{CarriesOut, Given, ReaderState, Verdict, put_and_gave}
use Rattle.wl_server_client.specs.declared.error.FinishRefused.{FinishRefused}
use Rattle.wl_server_client.specs.declared.reading.action.OpenAction.TheVariants as opened
use Rattle.wl_server_model.specs.declared.step.Reply.{Reply}
use Rattle.wl_server_model.specs.declared.step.Step.TheVariants as step
use Rattle.wl_server_client.specs.Deeds.{Deed, left_if, left_in, notes_in, taken_in, Sent}
use Rattle.wl_server_client.specs.Finish.{FinishesRequest, ended_by, ends, refusal}
use Rattle.wl_server_model.specs.NotedEnds.{EachNoteIsOfAnEnd}
use Rattle.wl_server_client.specs.Telling.{Core, Tells, Told, core_of, speaker, deeds_of}
use Rattle.wl_server_model.proofs.OverRuns.Moves.MovesOfCalls.{named_serial}
use Rattle.std.proofs.lemmas.Option.{none-some}

-- ---- lists of notes

module _ {U : Type 0} where
  pub destroyed_both : (a b : List (Happening U)) → destroyed_in (a ++ b) ≡ destroyed_in a ++ destroyed_in b
  destroyed_both [] b = refl
  destroyed_both (Destroyed o u ∷ a) b = ap (λ (l : List Id). id_of o ∷ l) (destroyed_both a b)
  destroyed_both (Initialized ∷ a) b = destroyed_both a b
  destroyed_both (Disconnected reason ∷ a) b = destroyed_both a b

  ends_both : (a b : List (Happening U)) → ends_in (a ++ b) ≡ ends_in a + ends_in b
  ends_both [] b = omega arith
  ends_both (Destroyed o u ∷ a) b = ends_both a b
  ends_both (Initialized ∷ a) b = ends_both a b
  ends_both (Disconnected reason ∷ a) b = let more = ends_both a b in omega (arith, more)

  -- the note of an object is of that, if it had user data, and tells of no end
  destroyed_note : (o : IdParts) (u : Option U) → destroyed_in (end_note o u) ≡ left_id (id_of o) u
  destroyed_note o h2 = grind (arith)

  ends_note : (o : IdParts) (u : Option U) → ends_in (end_note o u) ≡ 0
  ends_note o h2 = grind (arith)

same_permuted : {A : Type 0} (xs ys : List A) → ys ≡ xs → IsPermutation xs ys
same_permuted xs ys same = subst (λ (l : List _). IsPermutation xs l) (sym same) (IsPermutation-refl xs)

-- what waits and leaves first, and then what leaves more
permuted_then : {A : Type 0} (x a n m b k z : List A) → IsPermutation (x ++ a) (n ++ m) → IsPermutation (m ++ b) (k ++ z)
    → IsPermutation (x ++ (a ++ b)) ((n ++ k) ++ z)
permuted_then x a n m b k z first second =
    let before = IsPermutation-append_left b (x ++ a) (n ++ m) first in
    let behind = IsPermutation-append_right n (m ++ b) (k ++ z) second in grind (arith, append_assoc, IsPermutation-trans, before, behind)

-- ---- moves

module _ {T U C : Type 0} (sends : T → Queue → Result ℕ IoFault → T → Type 0) (receives : T → ℕ → Result Queue IoFault → T → Type 0)
    (client : ClientParts) where
  -- what waited and what leaves is what is noted and what waits; and the client's end is noted where it is killed
  record Noting (p : Part T U C) (d : Doings U) (q : Part T U C) : Type 0 where
    objects : IsPermutation (destroyed_in p.waiting ++ d.left) (destroyed_in d.notes ++ destroyed_in q.waiting)
    ends : ends_in d.notes + one_if p.is_killed ≡ one_if q.is_killed
    none : ends_in q.waiting ≡ 0

  went_noting : (p q : Part T U C) (d : Doings U) (n : ℕ) (x : Object (Kept U)) (waits : Bool) → ends_in p.waiting ≡ 0
      → d.left ≡ left_id (id_of (id_at client n x)) x.value.user_data → d.notes ≡ (if waits then [] else note_of_end client n x)
      → q.waiting ≡ (if waits then p.waiting ++ note_of_end client n x else p.waiting) → q.is_killed ≡ p.is_killed → Noting p d q
  went_noting p q d n x waits none left notes waited killed =
      let apart = IsPermutation-append_comm (destroyed_in p.waiting) d.left in
      grind (arith, waits, apart, note_of_end, id_at, same_permuted, destroyed_both, destroyed_note, ends_both, ends_note)

  move_notes : (p q : Part T U C) (d : Doings U) → ends_in p.waiting ≡ 0 → Move (any true) sends receives client p d q → Noting p d q
  move_notes p q d none move = grind
      (arith, went_noting, note_of_end, id_at, same_permuted, append-nil, destroyed_both, destroyed_note, ends_both, ends_note)

  moves_note : (p q : Part T U C) (d : Doings U) → ends_in p.waiting ≡ 0 → Moves (any true) sends receives client p d q → Noting p d q
  moves_note p q d none (stayed is same) = grind (arith, same_permuted, append-nil)
  moves_note p q d none (followed {m = m} {a = a} {b = b} first second is) =
      let one = moves_note p m a none first in
      subst (λ (x : Doings U). Noting p x q) (sym is)
      (grind (arith, destroyed_in, destroyed_both, permuted_then, ends_both, moves_note m q b one.none second))
  moves_note p q d none (handed_out {a = a} ids moves among is) = grind (arith, moves_note p q a none moves)
  moves_note p q d none (moved move) = move_notes p q d none move

  -- ---- what is held of a client

  abbrev held_notes : Seen T U C → List Id
  held_notes s = destroyed_in s.made ++ destroyed_in (waiting_of s.part)

  record SeenNoting (s : Seen T U C) (d : Doings U) (t : Seen T U C) : Type 0 where
    objects : IsPermutation (held_notes s ++ d.left) (destroyed_in d.taken ++ held_notes t)
    ends : (ends_in d.taken + ends_in t.made) + ended_times s.part ≡ ends_in s.made + ended_times t.part
    none : ends_in (waiting_of t.part) ≡ 0

  unfelt_notes : (s : Seen T U C) → ends_in (waiting_of s.part) ≡ 0 → SeenNoting s (doings_of [] []) s
  unfelt_notes s none =
      record { objects = same_permuted (held_notes s ++ []) (held_notes s) (sym (append-nil (held_notes s))); ends = omega arith; none = none }

  -- the notes of moves stand behind those that were made
  behind_made : (made : List (Happening U)) (p q : Part T U C) (d : Doings U) → Noting p d q
      → IsPermutation ((destroyed_in made ++ destroyed_in p.waiting) ++ d.left) (destroyed_in (made ++ d.notes) ++ destroyed_in q.waiting)
  behind_made made p q d noting =
      let all = IsPermutation-append_right (destroyed_in made) (destroyed_in p.waiting ++ d.left) (destroyed_in d.notes ++ destroyed_in q.waiting) in
      grind (arith, append_assoc, destroyed_both made d.notes, all noting.objects)

  goes_note : (s t : Seen T U C) (d : Doings U) → ends_in (waiting_of s.part) ≡ 0 → Goes (any true) sends receives client s d t → SeenNoting s d t
  goes_note s t d none (unfelt is same) = grind (arith, doings_of, unfelt_notes)
  goes_note s t d none (notes_taken on is same) = grind (arith, doings_of, same_permuted, append-nil)
  goes_note s t d none (within p q there moves same) =
      grind (arith, moves_note p q d, moves_take sends receives client p q d moves, behind_made s.made p q d, ends_both)
  goes_note s t d none (taken_out p q on there killed moves empty nothing same) =
      grind (arith, moves_note p q d, moves_take sends receives client p q d moves, behind_made s.made p q d, ends_both, one_if)

-- ---- the run of a client

module _ {T U G C : Type 0} (w : World T G C) (id : ClientParts) where
  run_notes : (offer : Offer G) (s : Seen T U C) (run : List (Own T U G C)) (t : Seen T U C) → AreMine id run → ends_in (waiting_of s.part) ≡ 0
      → Alone w id offer s run t → SeenNoting w.sends w.receives id s (doings_of [] (history run)) t
  run_notes offer s [] t own none same = grind (arith, doings_of, unfelt_notes, same_permuted, held_notes, append-nil)
  run_notes offer s (e ∷ run) t own none (mid, by, alone) =
      let first = goes_note w.sends w.receives id s mid (doings_of (handed_by id e.call e.did) e.did) none
      (call_goes true w id offer e.call s e.lacked e.did mid own.0 by (λ cleans. refl)) in
      let rest = run_notes (offer_after offer e.call) mid run t own.1 first.none alone in
      let all = doings_in_both e.did (history run) in
      grind (arith, all, held_notes, destroyed_both, permuted_then, ends_both)

module _ {T U G C : Type 0} where
  pub each_is_noted : (w : World T G C) (table : List InterfaceRow) (run : List (Entry T U G C)) (after : ServerState T U G C)
      → Leads w (new_server table) run after
      → EachIsNoted run after
  each_is_noted w table run after leads id transport client_data earlier later e split inserts =
      let (link, fresh, alone) = (is_isolated w table run after leads).each id transport client_data earlier later e split inserts in
      let offer : Offer G = offer_over (new_offer table) (earlier ++ e ∷ []) in
      let all = run_notes w id offer (just_inserted link client_data) (mine id later) (seen id after) (are_mine id later) refl alone in
      let ids = own_ids w id offer link client_data (mine id later) (seen id after) (are_mine id later) alone in
      grind (arith, all, ids, destroyed_both, ends_both)

-- ---- each note is of an object that left

module _ {U : Type 0} where
  destroyed_among : (notes : List (Happening U)) (o : IdParts) (u : U) → Contains notes (Destroyed o u) → Contains (destroyed_in notes) (id_of o)
  destroyed_among [] o u (k, below, is) = absurd (omega (arith, below))
  destroyed_among (Destroyed a v ∷ notes) o u (zero, below, is) = (0, omega arith, (grind (arith)))
  destroyed_among (Destroyed a v ∷ notes) o u (suc k, below, is) =
      let (j, less, at) = destroyed_among notes o u (k, omega (arith, below), is) in (suc j, omega (arith, less), at)
  destroyed_among (h ∷ notes) o u (zero, below, is) = absurd cc
  destroyed_among (h ∷ notes) o u (suc k, below, is) = destroyed_among notes o u (k, omega (arith, below), is)

module _ {T U G C : Type 0} where
  pub each_note_is_of_an_end : (w : World T G C) (table : List InterfaceRow) (run : List (Entry T U G C)) (after : ServerState T U G C)
      → Leads w (new_server table) run after
      → EachNoteIsOfAnEnd run after
  each_note_is_of_an_end w table run after leads id transport client_data earlier later e split inserts o u among =
      let (link, fresh, alone) = (is_isolated w table run after leads).each id transport client_data earlier later e split inserts in
      let notes = each_is_noted w table run after leads id transport client_data earlier later e split inserts in
      let told : List (Happening U) = taken_in (history (mine id later)) ++ ((seen id after).made ++ waiting_of (seen id after).part) in (
        ((own_ids w id (offer_over (new_offer table) (earlier ++ e ∷ [])) link client_data (mine id later) (seen id after)
            (are_mine id later) alone).noted o u among).0,
        Contains-permutation (destroyed_in told) (left_in (history (mine id later))) (id_of o)
            (IsPermutation-sym (left_in (history (mine id later))) (destroyed_in told) notes.destroyed) (destroyed_among told o u among),
      )

-- ---- the end of a request

module _ {U : Type 0} where
  -- the objects that leave are those that the notes tell of
  abbrev SameEnds : Doings U → Type 0
  SameEnds d = d.left ≡ destroyed_in d.notes

  same_both : (a b : Doings U) → SameEnds a → SameEnds b → SameEnds (joined a b)
  same_both a b one two = grind (arith, destroyed_both a.notes b.notes)

module _ {T U C : Type 0} (sends : T → Queue → Result ℕ IoFault → T → Type 0) where
  -- what a verdict gave is what was put, and then its events
  gave_so : (p : Part T U C) (v : Verdict (Core U C) (Told U)) (lacked : Bool) (es : List Sending) (gave : List (Given (Told U)))
      (end : ReaderState T (Core U C)) → CarriesOut sends speaker v p.link es gave lacked end → (put : List Said) × (e : Core U C)
      × (gave ≡ put_and_gave put (v.events e))
  gave_so p v lacked es gave end (inl (first, others, put, wrote, mid, refused, puts, flushed, sent, core, given, is)) = (put, _, given)
  gave_so p v lacked es gave end (inr (asks, refused, none, given, same)) = ([], v.starved, given)

  same_told : (p : Part T U C) (v : Verdict (Core U C) (Told U)) (lacked : Bool) (did : List (Deed U)) (q : Part T U C)
      → ((d : Core U C) → SameEnds (doings_in (told_deeds (v.events d)))) → Tells sends v p.link lacked did q → SameEnds (doings_in did)
  same_told p v lacked did q events (es, gave, end, by, did_so, same) =
      let (put, e, given) = gave_so p v lacked es gave end by in
      let made = doings_in (told_deeds (v.events e)) in
      subst SameEnds (sym (ap doings_in did_so
      ∙ (ap (λ g. doings_in (deeds_of (map Sent es) g end.core)) given ∙ verdict_done es put (v.events e) end.core)))
      (same_both (putting es put) (joined made (end_of end.core)) refl (same_both made (end_of end.core) (events e) (grind (arith, end.core.ended))))

  ends_same : (client : ClientParts) (p : Part T U C) (id : IdParts) (b : Bool) (created : Option IdParts) (u : Option U) (lacked : Bool)
      (did : List (Deed U)) (q : Part T U C) → Tells sends (ends client (core_of p) id (ended_by p.store id b) created u) p.link lacked did q
      → (left_in did ≡ destroyed_in (notes_in did)) × (q.waiting ≡ p.waiting)
  ends_same client p id b created u lacked did q tells' = (
    same_told p (ends client (core_of p) id (ended_by p.store id b) created u) lacked did q
        (grind (arith, is_some, named, told_deeds, note_of_end, left_if, id_of, core_of, ended_by, named_serial, none-some)) tells',
    grind (arith, speaker, ends, core_of),
  )

  finish_same : (client : ClientParts) (p : Part T U C) (u : Option U) (answer : Result (Unit {0}) (FinishRefused (Option U))) (lacked : Bool)
      (did : List (Deed U)) (q : Part T U C) → FinishesRequest sends client p u answer lacked did q
      → (left_in did ≡ destroyed_in (notes_in did)) × (q.waiting ≡ p.waiting)
  finish_same client p u answer lacked did q h =
      elim (either_option p.action h) [
        | inl (none, (is, no_memory, nothing, same)) ↦ grind (arith)
        | inr (opened.Bind object, is_open, (is, no_memory, nothing, same)) ↦ grind (arith)
        | inr (opened.Request sender b created, is_open, g) ↦
            elim (either_option (refusal p.is_killed created u) g) [
              | inr (e, why, (is, no_memory, nothing, same)) ↦ grind (arith)
              | inl (none, (is, tells')) ↦ ends_same client p sender b created u lacked did q tells'
            ]
      ]

module _ {T U G C : Type 0} (w : World T G C) where
  pub end_same : (before after : ServerState T U G C) (e : Entry T U G C) (target : ClientParts) (u : Option U) (answer : Reply T U)
      → OneStep w before e after → e.call ≡ Asked (step.FinishRequest target u) answer → (id : ClientParts)
      → (left_in (e.did id) ≡ destroyed_in (notes_in (e.did id))) × (waiting_of (seen id after).part ≡ waiting_of (seen id before).part)
  end_same before after e target u answer by call id = grind (arith, seen, either_option, same_client, finish_same)
