-- How often calls receive from a client: only readings do, and each at most as often as it is allowed.
--
-- A call that does not read a client is the same over a transport that never receives, and over that no base move does.
use Rattle.std.proofs.Common.{◌≡◌, ℕ, ◌+◌, ◌≤◌, Bool, false, List, [], ◌∷◌, ◌++◌, append_assoc, append-nil, length, Option, None, Some, Result, Ok, Err, refl, ap, ◌∙◌, true≢false, arith}
use Rattle.wl_wire.specs.declared.error.IoFault.{IoFault}
use Rattle.wl_link.proofs.Calls.Branches.{either_bool, either_option, either_result}
use Rattle.wl_link.specs.Exchange.{Queue}
use Rattle.wl_link.specs.Link.{count_of, counted_answer}
use Rattle.wl_link.specs.Reader.{Gives, Handled, ReaderState, Reads, Received, Turn, Unread, with_link}
use Rattle.wl_server_client.specs.declared.error.ActionError.{ActionError}
use Rattle.wl_server_client.specs.declared.error.FinishError.{FinishError}
use Rattle.wl_server_client.specs.declared.reading.action.Action.{Action}
use Rattle.wl_server_client.specs.declared.reading.action.Reading.{Reading}
use Rattle.wl_server_model.specs.declared.step.Reply.TheVariants as reply
use Rattle.wl_server_model.specs.declared.step.Step.TheVariants as step
use Rattle.wl_server_model.specs.Backend.{BackendState}
use Rattle.wl_server_model.specs.Bounded.{EachPartIsBounded, KeepsTo, receives_in, receives_over}
use Rattle.wl_server_client.specs.Deeds.{Deed, Handed, came_in}
use Rattle.wl_server_model.specs.Dispatch.{Answering, EndsDispatch, Handles, Last, Round, Rounds, IsDispatched, EachIsDispatched, more, no_action, none, not_ended}
use Rattle.wl_server_client.specs.Globals.{Offer}
use Rattle.wl_server_client.specs.Ids.{ClientParts, same_client}
use Rattle.wl_server_client.specs.Part.{Part}
use Rattle.wl_server_model.specs.PartStep.{Asked, Call, PartCall, World, around}
use Rattle.wl_server_model.specs.Reached.{AllSpare}
use Rattle.wl_server_client.specs.Reading.{Around, NextAction, action_content, new_reading, server}
use Rattle.wl_server_model.specs.Runs.{Leads}
use Rattle.wl_server_model.specs.Server.{Seen, ServerState, seen}
use Rattle.wl_server_model.specs.Steps.{Entry, OneStep}
use Rattle.wl_server_client.specs.Telling.{Core, Told}
use Rattle.wl_server_model.proofs.Dispatches.Waiting.{stops_left, unread_goes, unread_moves}
use Rattle.wl_server_model.proofs.OverRuns.Alone.IsolationLaw.{same_self}
use Rattle.wl_server_model.proofs.OverRuns.Cut.RoomLaws.{no_more, none_sent, received, received_deeds}
use Rattle.wl_server_model.proofs.OverRuns.Moves.BaseMoves.{Doings, Goes, Moves, followed, handed_out, notes_taken, moved, stayed, taken_out, unfelt, within}
use Rattle.wl_server_model.specs.Broken.{reads_of}

-- ---- a call that does not read the client

module _ {T U C : Type 0} (sends : T → Queue → Result ℕ IoFault → T → Type 0) (receives : T → ℕ → Result Queue IoFault → T → Type 0)
    (client : ClientParts) where
  moves_quiet : (p q : Part T U C) (d : Doings U) → Moves unread_moves sends receives client p d q → d.came ≡ []
  moves_quiet p q d (stayed is same) = ap (λ (x : Doings U). x.came) is
  moves_quiet p q d (followed {m = m} {a = a} {b = b} first second is) = grind (arith, no_more, moves_quiet p m a first, moves_quiet m q b second)
  moves_quiet p q d (handed_out {a = a} ids moves among is) = ap (λ (x : Doings U). x.came) is ∙ moves_quiet p q a moves
  moves_quiet p q d (moved move) = grind (arith, true≢false)

  goes_quiet : (s t : Seen T U C) (d : Doings U) → Goes unread_moves sends receives client s d t → d.came ≡ []
  goes_quiet s t d h1 = grind (arith, unfelt, within, moves_quiet, taken_out, notes_taken)

pub call_quiet : {T U G C : Type 0} (w : World T G C) (id : ClientParts) (offer : Offer G) (before after : Seen T U C) (lacked : Bool)
    (did : List (Deed U)) (call : Call T U G C)
    → reads_of id call ≡ false → PartCall w id offer call before lacked did after → came_in did ≡ []
call_quiet w id offer before after lacked did call other h = grind (arith, unread_goes, goes_quiet, came_in)

-- ---- a reading

module _ {T U G C : Type 0} (sends : T → Queue → Result ℕ IoFault → T → Type 0) (receives : T → ℕ → Result Queue IoFault → T → Type 0)
    (a : Around G C) where
  -- the receives of its turns, and those that are left
  turns_bounded : (left : ℕ) (p after : ReaderState T (Core U C)) (turns : List Turn) (out : Gives (Told U))
      → Reads sends (server a) receives left p turns out after
      → length (received U turns) + out.left ≤ left
  turns_bounded left p after [] out (same, ends) = omega (arith, stops_left sends receives (server a) left p out ends)
  turns_bounded left p after (Received r ∷ turns) out (on, lacks, (n, is, (link, filled, finds, h))) =
      grind (arith, either_result, counted_answer, count_of, with_link, length, received, turns_bounded n (with_link p link) after turns out)
  turns_bounded left p after (Handled es ∷ turns) out (on, (v, link, first, lacked, mid, rest, found', by, split, next)) =
      grind (arith, length, received, none_sent, turns_bounded left mid after turns rest next)
  turns_bounded left p after (Unread es ∷ turns) out (on, (v, link, first, lacked, mid, rest, found', by, split, next)) =
      grind (arith, length, received, none_sent, turns_bounded left mid after turns rest next)

  part_bounded : (r : Reading) (p : Part T U C) (answer : Result Handed ActionError) (r' : Reading) (lacked : Bool) (did : List (Deed U))
      (q : Part T U C)
      → NextAction sends receives a r p answer r' lacked did q → receives_in did + r'.turns_left ≤ r.turns_left
  part_bounded r p answer r' lacked did q h = grind (arith, either_option, either_bool, turns_bounded, receives_in, received, received_deeds)

-- ---- a call

module _ {T U G C : Type 0} (w : World T G C) (id : ClientParts) (offer : Offer G) (before after : Seen T U C) (lacked : Bool)
    (did : List (Deed U)) where
  nothing : (call : Call T U G C) → reads_of id call ≡ false → PartCall w id offer call before lacked did after → receives_in did ≡ 0
  nothing call other h = ap length (call_quiet w id offer before after lacked did call other h)

  pub keeps_to : (call : Call T U G C) → PartCall w id offer call before lacked did after → KeepsTo id call (receives_in did)
  keeps_to call h1 =
      grind (arith, same_client, receives_in, either_option, around, part_bounded, new_reading, action_content, nothing, length, call_quiet)

-- ---- calls one after another

module _ {T U G C : Type 0} where
  over_both : (id : ClientParts) (run others : List (Entry T U G C))
      → receives_over id (run ++ others) ≡ receives_over id run + receives_over id others
  over_both id [] others = grind (arith)
  over_both id (e ∷ run) others = grind (arith, over_both id run others)

module _ {T U G C : Type 0} (w : World T G C) (id : ClientParts) where
  one_quiet : (before after : ServerState T U G C) (e : Entry T U G C) → reads_of id e.call ≡ false → OneStep w before e after
      → receives_in (e.did id) ≡ 0
  one_quiet before after e other one = nothing w id before.offer (seen id before) (seen id after) (e.lacks id) (e.did id) e.call other (one.each id)

  calls_quiet : (before after : ServerState T U G C) (run : List (Entry T U G C)) → Leads w before run after → AllSpare id run
      → receives_over id run ≡ 0
  calls_quiet before after [] same spared = refl
  calls_quiet before after (e ∷ run) (mid, one, leads) (spared, others) = grind (arith, one_quiet, true≢false, calls_quiet mid after run leads others)

  -- a reading of this client with so many receives left
  pub reading_bounded : (before after : ServerState T U G C) (e : Entry T U G C) (r r' : Reading) (answer : Result Action ActionError)
      → e.call ≡ Asked (step.NextActionWithin id r) (reply.NextActionWithin answer r') → OneStep w before e after
      → receives_in (e.did id) + r'.turns_left ≤ r.turns_left
  reading_bounded before after e r r' answer h1 h2 = grind (arith, same_client, same_self, receives_in, keeps_to, true≢false, seen)

-- ---- a dispatch

module _ {H T U G C : Type 0} (w : World T G C) (answers : Answering H T U G C) (id : ClientParts) where
  handles_quiet : (h h' : H) (before : BackendState T U G C) (after : ServerState T U G C) (a : Action) (run : List (Entry T U G C)) (lacked : Bool)
      (why : Option FinishError)
      → Handles w answers id h before a run lacked why h' after → receives_over id run ≡ 0
  handles_quiet h h' before after a run lacked why h1 = grind (arith, calls_quiet, one_quiet, over_both, reads_of, true≢false, nothing, seen)

  -- so many receives were made, and so many are left
  abbrev Spends : Reading → List (Entry T U G C) → Reading → Type 0
  Spends r run r' = receives_over id run + r'.turns_left ≤ r.turns_left

  round_spends : (h h' : H) (r r' : Reading) (before after : ServerState T U G C) (run : List (Entry T U G C)) (lacked : Bool)
      (why : Option FinishError)
      → Round w answers id h r before run lacked why h' r' after → Spends r run r'
  round_spends h h' r r' before after run lacked why round =
      let read = reading_bounded w id before round.found.server round.read r r' (Ok round.handed) round.read_is round.reads in
      omega (arith, read, handles_quiet h h' round.found after round.handed round.rest round.end_lacked why round.handles, ap (receives_over id) round.run_is)

  rounds_spend : (h h' : H) (r r' : Reading) (before after : ServerState T U G C) (run : List (Entry T U G C)) (lacked : Bool)
      → Rounds w answers id h r before run lacked h' r' after → Spends r run r'
  rounds_spend h h' r r' before after run lacked (none nothing' unlacked) = omega (arith, ap (receives_over id) nothing')
  rounds_spend h h' r r' before after run lacked
      (more {h1 = h1} {r1 = r1} {s1 = s1} {first = first} {next = next} {before = was} {now = now} rounds round run_is lacked_is) =
      omega (arith, rounds_spend h h1 r r1 before s1 first was rounds, round_spends h1 h' r1 r' s1 after next now None round, ap (receives_over id) run_is, over_both id first next)

  last_spends : (h h' : H) (r r' : Reading) (before after : ServerState T U G C) (run : List (Entry T U G C)) (lacked : Bool) (f : IoFault)
      → Last w answers id h r before run lacked f h' r' after → Spends r run r'
  last_spends h h' r r' before after run lacked f (no_action e error one call run_is lacked_is fault_is same) =
      omega (arith, reading_bounded w id before after e r r' (Err error) call one, ap (receives_over id) run_is)
  last_spends h h' r r' before after run lacked f (not_ended why round fault_is) = round_spends h h' r r' before after run lacked (Some why) round

  pub run_bounded : (h h' : H) (before after : ServerState T U G C) (run : List (Entry T U G C)) (lacked : Bool) (answer : Result ℕ IoFault)
      → IsDispatched w answers id h before run lacked answer h' after → receives_over id run ≤ 64
  run_bounded h h' before after run lacked answer serves =
      let s = serves.rounds_end in
      let first = rounds_spend h s.handler new_reading s.reading before s.mid s.first s.first_lacked s.rounds in
      let last = last_spends s.handler h' s.reading serves.left s.mid after s.last s.last_lacked serves.fault s.end in
      omega (arith, first, last, ap (receives_over id) s.run_is, over_both id s.first s.last)

  -- the cleanup at the end of a dispatch receives nothing
  pub dispatch_bounded : (h h' : H) (before mid : ServerState T U G C) (after : BackendState T U G C) (calls : List (Entry T U G C)) (lacked : Bool)
      (answer result : Result ℕ IoFault)
      → IsDispatched w answers id h before calls lacked answer h' mid → (ends : EndsDispatch w before calls lacked mid answer result after)
      → receives_over id (calls ++ ends.cleanup ∷ []) ≤ 64
  dispatch_bounded h h' before mid after calls lacked answer result serves ends =
      let quiet = one_quiet w id mid after.server ends.cleanup (ap (λ (c : Call T U G C). reads_of id c) ends.cleanup_is) ends.cleans in
      omega (arith, run_bounded h h' before mid calls lacked answer serves, quiet, over_both id calls (ends.cleanup ∷ []))

-- ---- clients one after another

module _ {T U G C : Type 0} where
  one_more_part : (earlier : List ClientParts) (id : ClientParts) (first next : List (Entry T U G C)) → EachPartIsBounded earlier first
      → receives_over id next ≤ 64
      → EachPartIsBounded (earlier ++ (id ∷ [])) (first ++ next)
  one_more_part [] id first next nothing' few = grind (arith, append-nil)
  one_more_part (e ∷ earlier) id first next (own, rest, is, own_few, others) few =
      grind (arith, append_assoc, one_more_part earlier id rest next others few)

module _ {H T U G C : Type 0} (w : World T G C) (answers : Answering H T U G C) where
  pub parts_bounded : (ids : List ClientParts) (h h' : H) (before after : ServerState T U G C) (run : List (Entry T U G C)) (lacked : Bool)
      (total : ℕ)
      → EachIsDispatched w answers ids h before run lacked total h' after → EachPartIsBounded ids run
  parts_bounded ids h h' before after run lacked total (none no_ids nothing' unlacked no_total) = grind (arith)
  parts_bounded ids h h' before after run lacked total
      (more {earlier = earlier} {h1 = h1} {s1 = s1} {first = first} {next = next} {before = was} {now = now} {count = count} id answer each serves ids_are run_is lacked_is total_is) =
      let first_parts = parts_bounded earlier h h1 before s1 first was count each in
      let few = run_bounded w answers id h1 h' s1 after next now answer serves in
      grind (arith, one_more_part)
