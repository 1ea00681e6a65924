-- That a reading is a chain of base moves, over the reader's turns.
use Rattle.std.proofs.Common.{◌≡◌, ◌⊎◌, ℕ, Bool, true, false, not, List, [], ◌∷◌, ◌++◌, map, Option, None, Result, Ok, refl, sym, ap, ◌∙◌, append-nil, true≢false, arith}
use mathlib.Core.Logic.{inl, inr}
use Rattle.std.specs.Prelude.{nat_le}
use Rattle.wl_wire.specs.declared.argument.ArgumentType.{ArgumentType}
use Rattle.wl_wire.specs.declared.error.IoFault.{IoFault}
use Rattle.wl_wire.specs.declared.error.IoFault.TheVariants as fault
use Rattle.wl_wire.specs.declared.error.MessageParseError.{MessageParseError}
use Rattle.wl_wire.specs.Message.{WireMessage}
use Rattle.wl_link.proofs.Calls.Branches.{either_result}
use Rattle.wl_link.specs.Exchange.{Queue, Sending}
use Rattle.wl_link.specs.Link.{LinkState, ReadOne, count_of, counted_answer}
use Rattle.wl_link.specs.Reader.{CarriesOut, Given, Gives, Handled, Reads, Received, Stops, Turn, Unread, Verdict, given_first, with_link, ReaderState}
use Rattle.wl_server_client.specs.declared.reading.action.Reading.{Reading}
use Rattle.wl_server_client.specs.declared.error.ActionError.{ActionError}
use Rattle.wl_server_model.proofs.OverRuns.Moves.BaseMoves.{Doings, Kind, MayRead, followed, moved, received, relinked, stayed}
use Rattle.wl_server_client.specs.Deeds.{Came, Deed, Handed, Sent}
use Rattle.wl_server_model.proofs.OverRuns.Moves.DoingsLaws.{deeds_done, doings_in, doings_sends, joined_none, turns_done}
use Rattle.wl_server_model.proofs.OverRuns.Moves.MovesOfRequests.{handles_comes, garbled_comes}
use Rattle.wl_server_model.proofs.OverRuns.Moves.MovesOfVerdicts.{Comes, Go, carried, same_doings, Lands, lands_not, lands_killed}
use Rattle.wl_server_client.specs.Part.{Part}
use Rattle.wl_server_client.specs.Reading.{Around, NextAction, exchanges_in, faulted, reads_on, server}
use Rattle.wl_server_client.specs.Telling.{Core, Told, deeds_of, end_deeds, part_of, reader_part}
use Rattle.wl_server_client.specs.declared.notes.DisconnectReason.TheVariants.{ConnectionClosed}
use Rattle.std.proofs.lemmas.Bool.{not-true, and_parts}

module _ {T : Type 0} where
  read_waits : (looks_up : ℕ → ℕ → Option (List ArgumentType) → Type 0) (before after : LinkState T) (answer : Result WireMessage MessageParseError)
      → ReadOne looks_up before answer after → (after.outgoing ≡ before.outgoing) × (after.outgoing_capacity ≡ before.outgoing_capacity)
  read_waits looks_up before after answer h = grind (arith, nat_le)

module _ {U C : Type 0} where
  -- a client that is read is live
  live_of : (c : Core U C) → reads_on c ≡ true → c.is_killed ≡ false
  live_of c on = not-true c.is_killed (and_parts (not c.is_killed) _ on).0

module _ {T U G C : Type 0} (sends : T → Queue → Result ℕ IoFault → T → Type 0) (a : Around G C) where
  pub gave_none : (left : ℕ) (mid : ReaderState T (Core U C)) (rest : Gives (Told U)) → Stops sends (server a) left mid rest → rest.gave ≡ []
  gave_none left mid rest ends = grind (arith, reads_on)

module _ {T U G C : Type 0} (kind : Kind) (sends : T → Queue → Result ℕ IoFault → T → Type 0) (receives : T → ℕ → Result Queue IoFault → T → Type 0)
    (a : Around G C) where
  abbrev Step : Part T U C → Doings U → Part T U C → Type 0
  Step p d q = Go kind sends receives a.client p d q

  abbrev Read : ReaderState T (Core U C) → List Turn → Gives (Told U) → ReaderState T (Core U C) → Type 0
  Read before turns out after = Step (part_of before) (doings_in (deeds_of (exchanges_in turns) out.gave after.core)) (part_of after)

  -- nothing more was read, or the client was read on
  over_or_on : (left : ℕ) (mid after : ReaderState T (Core U C)) (turns : List Turn) (rest : Gives (Told U))
      → Reads sends (server a) receives left mid turns rest after
      → ((turns ≡ []) × (after ≡ mid) × (rest.gave ≡ [])) ⊎ (reads_on mid.core ≡ true)
  over_or_on left mid after [] rest (same, ends) = inl (refl, same, gave_none sends a left mid rest ends)
  over_or_on left mid after (turn ∷ turns) rest h = inr (grind (arith, turn, h))

  -- bytes are read, a verdict is carried out, and then the rest
  turn_moves : MayRead kind a.table a.client → (left : ℕ) (before : ReaderState T (Core U C)) (link : LinkState T) (v : Verdict (Core U C) (Told U))
      → link.outgoing ≡ before.link.outgoing
      → link.outgoing_capacity ≡ before.link.outgoing_capacity → Comes kind sends receives a.client before.core v → before.core.ended ≡ None
      → (es : List Sending) (first : List (Given (Told U))) (lacked : Bool) (mid after : ReaderState T (Core U C)) (turns : List Turn)
      (rest out : Gives (Told U))
      → CarriesOut sends (server a) v link es first lacked mid → out ≡ given_first first lacked rest
      → Reads sends (server a) receives left mid turns rest after → (mid.core.ended ≡ None → Read mid turns rest after)
      → Step (part_of before) (doings_in (deeds_of (map Sent es ++ exchanges_in turns) out.gave after.core)) (part_of after)
  turn_moves may left before link v waits stays comes none es first lacked mid after turns rest out by split reads more =
      let c = carried kind sends receives a.client (server a) (λ d f. refl) before.core v comes none link es first mid.core mid.link lacked by in
      let turn : Step (part_of before) (doings_in (deeds_of (map Sent es) first mid.core)) (part_of mid)
      = followed (moved (relinked link waits stays (λ unread. absurd (true≢false (sym may.reads ∙ unread))) refl refl)) c.0 refl in
      grind (arith, c.1, c.2, turn, map, over_or_on, append-nil, live_of, followed, same_doings, deeds_done, doings_sends, joined_none, turns_done)

  faulted_lands : (c : Core U C) (f : IoFault) → c.ended ≡ None → Lands kind sends receives a.client c [] (faulted c f)
  faulted_lands c fault.WouldBlock none = lands_not kind sends receives a.client c none
  faulted_lands c fault.OutOfMemory none = lands_not kind sends receives a.client c none
  faulted_lands c f none =
      lands_killed kind sends receives a.client c [] c ConnectionClosed kind.closes (lands_not kind sends receives a.client c none)

  pub reads_moves : MayRead kind a.table a.client
      → (left : ℕ) (before : ReaderState T (Core U C)) (turns : List Turn) (out : Gives (Told U)) (after : ReaderState T (Core U C))
      → before.core.ended ≡ None → Reads sends (server a) receives left before turns out after → Read before turns out after
  reads_moves may left before [] out after none (same, ends) = grind (arith, part_of, doings_in, deeds_of, stayed, gave_none, end_deeds)
  reads_moves may left before (Received r ∷ turns) out after none (on, lacks, (n, is, (link, filled, room, h))) =
      elim (either_result (counted_answer (count_of r)) h) [
        | inl (u, more) ↦
            followed (moved (received r (counted_answer (count_of r)) link may.reads filled refl refl))
            (reads_moves may n (with_link before link) turns out after none more) refl
        | inr (f, (over, stopped, same)) ↦
            rw (over, stopped, same)
            (followed (moved (received r (counted_answer (count_of r)) link may.reads filled refl refl))
            ((faulted_lands before.core f none).moves link) (deeds_done (Came r ∷ []) [] (faulted before.core f)))
      ]
  reads_moves may left before (Handled es ∷ turns) out after none (on, (v, link, first, lacked, mid, rest, (m, read, is), by, split, more)) =
      let kept = read_waits (λ sender opcode found. found ≡ (server a).signature before.core sender opcode) before.link link (Ok m) read in
      turn_moves may left before link v kept.0 kept.1
      (rw is (handles_comes kind sends receives a may before.core m none)) none es first lacked mid after turns rest out by split more
      (λ unended. reads_moves may left mid turns rest after unended more)
  reads_moves may left before (Unread es ∷ turns) out after none (on, (v, link, first, lacked, mid, rest, (read, same, is), by, split, more)) =
      turn_moves may left before link v (ap (λ (l : LinkState T). l.outgoing) same) (ap (λ (l : LinkState T). l.outgoing_capacity) same)
      (rw is (garbled_comes kind sends receives a may before.core _ none)) none es first lacked mid after turns rest out by split more
      (λ unended. reads_moves may left mid turns rest after unended more)

  -- ---- a reading

  pub next_action_moves : MayRead kind a.table a.client
      → (r : Reading) (p : Part T U C) (answer : Result Handed ActionError) (r' : Reading) (lacked : Bool) (did : List (Deed U)) (q : Part T U C)
      → NextAction sends receives a r p answer r' lacked did q → Step p (doings_in did) q
  next_action_moves may r p answer r' lacked did q h = grind (arith, stayed, doings_in, part_of, reads_moves, reader_part)
