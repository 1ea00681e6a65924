-- That a dispatch ends: each action that is read takes a message off what waits to be read of its client, or a receive is
-- used up; and what is called in between adds nothing to what waits.
use Rattle.std.proofs.Common.{◌≡◌, ◌⊎◌, ℕ, suc, ◌<◌, ◌≤◌, Bool, true, false, List, [], ◌∷◌, ◌++◌, length, Option, Some, Result, Ok, Err, refl, sym, ap, ◌∙◌, true≢false, arith}
use Rattle.std.specs.Option.{option_map_or}
use Rattle.std.specs.Prelude.{◌||◌, MatchResult}
use Rattle.std.proofs.lemmas.List.{length-drop}
use mathlib.Core.Logic.{inl}
use Rattle.wl_wire.specs.declared.error.IoFault.{IoFault}
use Rattle.wl_wire.specs.declared.error.IoFault.TheVariants as fault
use Rattle.wl_wire.specs.declared.argument.ArgumentType.{ArgumentType}
use Rattle.wl_wire.specs.Message.{WireMessage}
use Rattle.wl_wire.specs.Parse.{length_of}
use Rattle.wl_link.proofs.Calls.Branches.{either_bool, either_option}
use Rattle.wl_link.specs.Exchange.{Queue, Sending, nothing}
use Rattle.wl_link.proofs.Streams.LengthLaws.{carries_stays}
use Rattle.wl_link.specs.Link.{LinkState, ReadOne, count_of, counted_answer}
use Rattle.wl_link.specs.Puts.{PutsOut, Said, lacks_memory}
use Rattle.wl_link.specs.Reader.{CarriesOut, Given, Gives, Handled, Reader, Reads, Received, Stops as StopsReading, Turn, Unread, Verdict, came_to, put_and_gave, stops, with_link as at_link, ReaderState}
use Rattle.wl_link.proofs.Streams.StreamLaws.{read_left}
use Rattle.wl_server_client.specs.declared.error.ActionError.TheVariants.{Io}
use Rattle.wl_server_client.specs.declared.error.FinishError.{FinishError}
use Rattle.wl_server_client.specs.declared.reading.action.Action.{Action}
use Rattle.wl_server_client.specs.declared.reading.action.Reading.{Reading}
use Rattle.wl_server_model.specs.declared.step.Reply.{Reply}
use Rattle.wl_server_model.specs.declared.step.Reply.TheVariants as reply
use Rattle.wl_server_model.specs.declared.step.Step.{Step}
use Rattle.wl_server_model.specs.declared.step.Step.TheVariants as step
use Rattle.wl_server_model.specs.Backend.{BackendState, Calls}
use Rattle.wl_server_client.specs.Deeds.{Deed, Handed, handed}
use Rattle.wl_server_model.specs.Dispatch.{Answering, Answers, Handles}
use Rattle.wl_server_client.specs.Globals.{Offer}
use Rattle.wl_server_client.specs.Ids.{ClientParts, same_client}
use Rattle.wl_server_model.specs.Inside.Dispatching.{Fewer, waiting_of, waits}
use Rattle.wl_server_client.specs.Part.{Part}
use Rattle.wl_server_model.specs.PartStep.{Asked, Call, PartCall, ReadsFor, World, around}
use Rattle.wl_server_model.specs.Reached.{AllSpare}
use Rattle.wl_server_client.specs.Reading.{Around, NextAction, action_in, answered, server}
use Rattle.wl_server_model.specs.Runs.{Leads}
use Rattle.wl_server_model.specs.Server.{Seen, ServerState, seen}
use Rattle.wl_server_model.specs.Steps.{Entry, OneStep}
use Rattle.wl_server_client.specs.Telling.{Core, Finish, Stops, Told, core_of, reader_part, speaker, tells}
use Rattle.wl_server_model.proofs.OverRuns.Alone.IsolationLaw.{same_self}
use Rattle.wl_server_model.proofs.OverRuns.Ids.ReplyLaws.{own_step}
use Rattle.wl_server_model.proofs.OverRuns.Moves.BaseMoves.{Doings, Goes, Kind, Moves, followed, handed_out, notes_taken, moved, stayed, taken_out, unfelt, within}
use Rattle.wl_server_model.proofs.OverRuns.Moves.BaseMovesLaw.{AnyGoes, any_moves}
use Rattle.wl_server_model.specs.Broken.{reads_of}
use Rattle.wl_server_model.proofs.OverRuns.Moves.MovesOfReadings.{gave_none}

-- ---- what calls keep

-- the client is not read
abbrev pub unread_moves : Kind
unread_moves = record { gathers = true; hands = true; reads = false; finishes = true; kills = λ reason. Unit {0}; closes = tt }

module _ {T U C : Type 0} (sends : T → Queue → Result ℕ IoFault → T → Type 0) (receives : T → ℕ → Result Queue IoFault → T → Type 0)
    (client : ClientParts) where
  -- messages that are put leave what waits to be read, as a verdict does that puts them
  told_keeps : (c : Core U C) (ms : List Said) (before after : LinkState T) (es : List Sending) (put : List Said) (answer : Result (Unit {0}) IoFault)
      → PutsOut sends before ms es put answer after → after.incoming ≡ before.incoming
  told_keeps c ms before after es put answer puts =
      (carries_stays sends speaker (tells c ms) before (record { core = came_to speaker (tells c ms) answer; link = after }) (es ++ [])
      (put_and_gave put ((tells c ms).events (came_to speaker (tells c ms) answer))) (lacks_memory answer || false)
      (inl (es, [], put, answer, after, false, puts, (refl, refl, refl), refl, refl, refl, refl))).incoming

  moves_keep : (p q : Part T U C) (d : Doings U) → Moves unread_moves sends receives client p d q → q.link.incoming ≡ p.link.incoming
  moves_keep p q d (stayed is same) = ap (λ (x : Part T U C). x.link.incoming) same
  moves_keep p q d (followed {m = m} {a = a} {b = b} first second is) = moves_keep m q b second ∙ moves_keep p m a first
  moves_keep p q d (handed_out {a = a} ids moves among is) = moves_keep p q a moves
  moves_keep p q d (moved move) = grind (arith, true≢false, told_keeps (core_of p))

-- ---- what waits of a client

module _ {T U C : Type 0} where
  abbrev waits_in : Option (Part T U C) → ℕ
  waits_in o = option_map_or (λ p. length p.link.incoming.bytes) o 0

  goes_no_more : (sends : T → Queue → Result ℕ IoFault → T → Type 0) (receives : T → ℕ → Result Queue IoFault → T → Type 0) (client : ClientParts)
      (before after : Seen T U C) (d : Doings U)
      → Goes unread_moves sends receives client before d after → waits after ≤ waits before
  goes_no_more sends receives client before after d h1 = grind (arith, unfelt, within, moves_keep, taken_out, notes_taken)

module _ {T U G C : Type 0} (w : World T G C) (id : ClientParts) (offer : Offer G) (before after : Seen T U C) (lacked : Bool)
    (did : List (Deed U)) where
  pub unread_goes : (call : Call T U G C) → reads_of id call ≡ false → PartCall w id offer call before lacked did after
      → AnyGoes unread_moves w id offer before did after
  unread_goes call other h =
      any_moves unread_moves w id offer call before lacked did after
      (record { kills = λ e may. tt; gathers = λ is. refl; hands = λ is. refl; reads = λ is. absurd (true≢false (sym is ∙ other)); finishes = λ is. refl }) h

module _ {T U G C : Type 0} (w : World T G C) (id : ClientParts) where
  one_adds_nothing : (before after : ServerState T U G C) (e : Entry T U G C) → reads_of id e.call ≡ false → OneStep w before e after
      → waiting_of id after ≤ waiting_of id before
  one_adds_nothing before after e other one = grind (arith, unread_goes, goes_no_more, seen)

  -- so does what a handler calls
  calls_add_nothing : (before after : ServerState T U G C) (run : List (Entry T U G C)) → Leads w before run after → AllSpare id run
      → waiting_of id after ≤ waiting_of id before
  calls_add_nothing before after [] same spared = grind (arith)
  calls_add_nothing before after (e ∷ run) (mid, one, leads) (spared, others) =
      grind (arith, one_adds_nothing, true≢false, unread_goes, goes_no_more, seen, calls_add_nothing mid after run leads others)

-- ---- what a reading takes

module _ {T Core Event Finish : Type 0} (sends : T → Queue → Result ℕ IoFault → T → Type 0) (receives : T → ℕ → Result Queue IoFault → T → Type 0)
    (reader : Reader Core Event Finish) where
  -- a message that was taken is no longer there
  taken_shorter : (look_up : ℕ → ℕ → Option (List ArgumentType)) (before after : LinkState T) (m : WireMessage)
      → ReadOne (λ sender opcode found. found ≡ look_up sender opcode) before (Ok m) after
      → length after.incoming.bytes < length before.incoming.bytes
  taken_shorter look_up before after m read = grind (arith, read_left, nothing, length, length-drop, length_of)

  carried_length : (v : Verdict Core Event) (link : LinkState T) (mid : ReaderState T Core) (es : List Sending) (first : List (Given Event))
      (lacked : Bool)
      → CarriesOut sends reader v link es first lacked mid → length mid.link.incoming.bytes ≡ length link.incoming.bytes
  carried_length v link mid es first lacked carried =
      ap (λ (q : Queue). length q.bytes) (carries_stays sends reader v link mid es first lacked carried).incoming

  pub stops_left : (left : ℕ) (p : ReaderState T Core) (out : Gives Event) → StopsReading sends reader left p out → out.left ≤ left
  stops_left left p out h = grind (arith)

  -- no receive was made, and nothing more waits; or there are fewer receives left
  abbrev NotMore : ℕ → ReaderState T Core → Gives Event → ReaderState T Core → Type 0
  NotMore left p out end = (out.left < left) ⊎ ((out.left ≡ left) × (length end.link.incoming.bytes ≤ length p.link.incoming.bytes))

  abbrev Less : ℕ → ReaderState T Core → Gives Event → ReaderState T Core → Type 0
  Less left p out end = (out.left < left) ⊎ ((out.left ≡ left) × (length end.link.incoming.bytes < length p.link.incoming.bytes))

  received : (left n : ℕ) (p end : ReaderState T Core) (link : LinkState T) (turns : List Turn) (out : Gives Event) (c : Result (Unit {0}) IoFault)
      → left ≡ suc n
      → MatchResult c (λ _. Reads sends reader receives n (at_link p link) turns out end)
      (λ f. (turns ≡ []) × (out ≡ stops (Some f) (lacks_memory (Err f)) n) × (end ≡ record { core = reader.faulted p.core f; link = link }))
      → (Reads sends reader receives n (at_link p link) turns out end → out.left ≤ n) → out.left < left
  received left n p end link turns out h8 is more goes = grind (arith)

  reads_no_more : (left : ℕ) (p end : ReaderState T Core) (turns : List Turn) (out : Gives Event) → Reads sends reader receives left p turns out end
      → NotMore left p out end
  reads_no_more left p end [] out (same, ends) = grind (arith, stops_left)
  reads_no_more left p end (Received r ∷ turns) out (on, lacks, (n, is, (link, filled, finds, h))) =
      grind (arith, received, counted_answer, count_of, at_link, reads_no_more n (at_link p link) end turns out)
  reads_no_more left p end (Handled es ∷ turns) out (on, (v, link, first, lacked, mid, rest, (m, read, is), carried, split, more)) =
      grind (arith, taken_shorter (reader.signature p.core) p.link link m read, carried_length v link mid es first lacked carried, split, reads_no_more left mid end turns rest more)
  reads_no_more left p end (Unread es ∷ turns) out (on, (v, link, first, lacked, mid, rest, (malformed, same, is), carried, split, more)) =
      grind (arith, same, carried_length v link mid es first lacked carried, split, reads_no_more left mid end turns rest more)

-- ---- a reading that hands out an action

module _ {U : Type 0} where
  -- malformed bytes end the reading
  ends_garbled : (put : List Said) (rest : List (Given (Told U)))
      → action_in (put_and_gave put (Stops fault.Proto ∷ []) ++ rest) ≡ Err (Io fault.Proto)
  ends_garbled [] rest = refl
  ends_garbled (m ∷ put) rest = ends_garbled put rest

module _ {T U G C : Type 0} (sends : T → Queue → Result ℕ IoFault → T → Type 0) (receives : T → ℕ → Result Queue IoFault → T → Type 0)
    (a : Around G C) where
  abbrev reader : Reader (Core U C) (Told U) (Finish U)
  reader = server a

  -- A reading that hands out an action took its message off what waits, or made a receive.
  reads_less : (left : ℕ) (p end : ReaderState T (Core U C)) (turns : List Turn) (out : Gives (Told U)) (h : Handed)
      → Reads sends reader receives left p turns out end
      → answered out.stopped out.gave ≡ Ok h → Less sends receives reader left p out end
  reads_less left p end [] out h (same, ends) is = grind (arith, action_in, gave_none)
  reads_less left p end (Received r ∷ turns) out h (on, lacks, (n, one, (link, filled, finds, more))) is =
      grind (arith, received, at_link, reads_no_more)
  reads_less left p end (Handled es ∷ turns) out h (on, (v, link, first, lacked, mid, rest, (m, read, so), carried, split, more)) is =
      let shorter = taken_shorter sends receives reader (reader.signature p.core) p.link link m read in
      let kept = carried_length sends receives reader v link mid es first lacked carried in
      grind (arith, reader, reads_no_more)
  reads_less left p end (Unread es ∷ turns) out h (on, (v, link, first, lacked, mid, rest, (malformed, same, so), carried, split, more)) is =
      grind (arith, action_in, ends_garbled, true≢false)

module _ {T U G C : Type 0} (w : World T G C) (id : ClientParts) where
  part_less : (offer : Offer G) (r r' : Reading) (p q : Part T U C) (h : Handed) (lacked : Bool) (did : List (Deed U))
      → NextAction w.sends w.receives (around w id offer) r p (Ok h) r' lacked did q
      → (r'.turns_left < r.turns_left) ⊎ ((r'.turns_left ≡ r.turns_left) × (length q.link.incoming.bytes < length p.link.incoming.bytes))
  part_less offer r r' p q h lacked did next =
      grind (arith, either_option, either_bool, reads_less w.sends w.receives (around w id offer) r.turns_left (reader_part p))

  -- what the call is to this client
  of_call : (before after : ServerState T U G C) (e : Entry T U G C) (call : Call T U G C) → e.call ≡ call → OneStep w before e after
      → PartCall w id before.offer call (seen id before) (e.lacks id) (e.did id) (seen id after)
  of_call before after e call is by = grind (arith, seen)

  -- what a reading of this client says of itself
  reads_fewer : (r r' : Reading) (before : BackendState T U G C) (a : Action) (found : BackendState T U G C)
      → Calls w before (step.NextActionWithin id r) (reply.NextActionWithin (Ok a) r') found → Fewer id r before.server r' found.server
  reads_fewer r r' before a found calls =
      let (e, is, refused, one) = calls.step in
      let (answer, left, so, reads) = of_call before.server found.server e
      (Asked (step.NextActionWithin id r) (reply.NextActionWithin (Ok a) r')) is one in
      let answer_is : answer ≡ Ok a = cc in
      let left_is : left ≡ r' = cc in
      at (e.lacks id) (e.did id) (rw (answer_is, left_is) at reads)
    where
      at : (lacked : Bool) (did : List (Deed U)) → ReadsFor w id before.server.offer id r (Ok (handed a)) r' (seen id before.server) lacked did
          (seen id found.server)
          → Fewer id r before.server r' found.server
      at lacked did reads =
          grind (arith, either_option, seen, own_step, same_client, same_self, waits, part_less, handed, waiting_of, length, waits_in)

  -- a round whose end was accepted leaves less to do
  pub round_fewer : {H : Type 0} (answers : Answering H T U G C) (h h' : H) (r r' : Reading) (before found : BackendState T U G C)
      (after : ServerState T U G C) (a : Action)
      (run : List (Entry T U G C)) (lacked : Bool) (why : Option FinishError)
      → Calls w before (step.NextActionWithin id r) (reply.NextActionWithin (Ok a) r') found
      → Handles w answers id h found a run lacked why h' after → Fewer id r before.server r' after
  round_fewer answers h h' r r' before found after a run lacked why calls handles =
      let first = reads_fewer r r' before a found calls in
      let called = calls_add_nothing w id found.server handles.left.server handles.calls handles.leads handles.spared in
      let quiet = ap (λ (c : Call T U G C). reads_of id c) handles.ended_is ∙ unread a handles.end handles.answer handles.answers_so in
      let ended = one_adds_nothing w id handles.left.server after handles.ended quiet handles.ends in
      grind (arith, first, called, ended)
    where
      unread : (a : Action) (end : Step T U G C) (answer : Reply T U) → Answers w answers id h found a end h' handles.left
          → reads_of id (Asked end answer) ≡ false
      unread a end answer so = grind (arith, reads_of, a)
