-- A *stretch* of a client's own run over the transport by script: calls in which bytes arrive, and actions are read and
-- finished.
use Rattle.std.specs.Prelude.{◌≡◌, ◌≢◌, ◌⊎◌, ◌≤◌, List, [], ◌∷◌, ◌++◌, Bool, true, false, if◌then◌else◌, Option, None, Some, Result, Ok, Err}
use Rattle.wl_wire.specs.declared.error.IoFault.{IoFault}
use Rattle.wl_wire.specs.declared.error.IoFault.TheVariants as fault
use Rattle.wl_link.specs.Exchange.{Queue, joined, nothing}
use Rattle.wl_link.specs.Link.{EachWithin, incoming_limit}
use Rattle.wl_link.specs.Runs.{EachPart}
use Rattle.wl_link.specs.Reader.{Given, HandedOut, Lacks, ReaderState}
use Rattle.wl_link.specs.Script.{Script, ScriptSends}
use Rattle.wl_link.specs.Served.{Served, state_as}
use Rattle.wl_link.specs.Stretch.{AllPieces, HasByteFree, LacksTokens, MayCome, arrivals_of, left_over, sending_side}
use Rattle.wl_server_client.specs.declared.error.ActionError.{ActionError}
use Rattle.wl_server_client.specs.declared.error.ActionError.TheVariants.{ActionOpen, Io}
use Rattle.wl_server_client.specs.declared.notes.Happening.TheVariants.{Disconnected}
use Rattle.wl_server_model.specs.declared.step.Reply.TheVariants as reply
use Rattle.wl_server_model.specs.declared.step.Step.TheVariants as step
use Rattle.wl_server_client.specs.Deeds.{Acted, Came, Deed, Handed, Noted, Sent}
use Rattle.wl_server_client.specs.Ids.{ClientParts, GlobalParts}
use Rattle.wl_server_client.specs.Part.{Part}
use Rattle.wl_server_model.specs.PartStep.{Asked, Call, around, over_scripts}
use Rattle.wl_server_client.specs.Reading.{Around, action_content, reads_on, server}
use Rattle.wl_server_model.specs.Runs.{Leads, Own, concerns, history, mine}
use Rattle.wl_server_model.specs.Server.{ServerState, seen}
use Rattle.wl_server_model.specs.Steps.{Entry}
use Rattle.wl_server_client.specs.Telling.{Core, Did, Finish, OfBind, OfRequest, Stops, Told, core_of, deeds_in, end_deeds, part_of, reader_part}

-- ---- deeds

module _ {U : Type 0} where
  -- all deeds but what was sent and received
  abbrev pub beside_exchanges : List (Deed U) → List (Deed U)
  beside_exchanges [] = []
  beside_exchanges (Sent e ∷ did) = beside_exchanges did
  beside_exchanges (Came r ∷ did) = beside_exchanges did
  beside_exchanges (d ∷ did) = d ∷ beside_exchanges did

  -- the note of the client's end is among the deeds
  abbrev pub was_killed : List (Deed U) → Bool
  was_killed [] = false
  was_killed (Noted (Disconnected reason) ∷ did) = true
  was_killed (d ∷ did) = was_killed did

  -- the actions that were handed out, and why nothing more was read
  abbrev pub answers_in : List (Given (Told U)) → List (Result Handed IoFault)
  answers_in [] = []
  answers_in (HandedOut (Did (Acted h)) ∷ gave) = Ok h ∷ answers_in gave
  answers_in (HandedOut (Stops f) ∷ gave) = Err f ∷ answers_in gave
  answers_in (_ ∷ gave) = answers_in gave

-- ---- the entries of a stretch

module _ {T U G C : Type 0} where
  -- an arrival of at least one byte that was accepted, or of the fault `WouldBlock`; a reading; or a finish
  abbrev pub IsHeard : Call T U G C → Type 0
  IsHeard (Asked (step.Arrive target bytes tokens) answer) = (bytes.items ≢ []) × (answer ≡ reply.Arrive (Ok tt))
  IsHeard (Asked (step.ArriveFault target f) answer) = f ≡ fault.WouldBlock
  IsHeard (Asked (step.NextAction target) answer) = Unit {0}
  IsHeard (Asked (step.NextActionWithin target reading) answer) = Unit {0}
  IsHeard (Asked (step.FinishRequest target u) answer) = Unit {0}
  IsHeard (Asked (step.FinishBind target u) answer) = Unit {0}
  IsHeard _ = ⊥

  -- each call is one of these and about this client, and memory was not refused to it
  abbrev pub AllHeard : ClientParts → List (Own T U G C) → Type 0
  AllHeard id [] = Unit {0}
  AllHeard id (e ∷ run) = (concerns id e.call ≡ true) × (e.lacked ≡ false) × IsHeard e.call × AllHeard id run

  abbrev pub arrived_by : Call T U G C → Queue
  arrived_by (Asked (step.Arrive target bytes tokens) answer) = record { bytes = bytes.items; tokens = tokens.items }
  arrived_by _ = nothing

  -- what arrived in all
  abbrev pub arrived : List (Own T U G C) → Queue
  arrived [] = nothing
  arrived (e ∷ run) = joined (arrived_by e.call) (arrived run)

  abbrev pub finished_by : Call T U G C → List (Finish U)
  finished_by (Asked (step.FinishRequest target u) (reply.FinishRequest (Ok _))) = OfRequest u ∷ []
  finished_by (Asked (step.FinishBind target u) (reply.FinishBind (Ok _))) = OfBind u ∷ []
  finished_by _ = []

  -- the data of the finishes that were accepted
  abbrev pub finished : List (Own T U G C) → List (Finish U)
  finished [] = []
  finished (e ∷ run) = finished_by e.call ++ finished run

  abbrev pub reading_by : Call T U G C → Option (Result Handed ActionError)
  reading_by (Asked (step.NextAction target) (reply.NextAction r)) = Some (action_content r)
  reading_by (Asked (step.NextActionWithin target reading) (reply.NextActionWithin r left)) = Some (action_content r)
  reading_by _ = None

-- the action that a reading handed out, or why the client was killed in it
abbrev pub told_by : {U : Type 0} → Option (Result Handed ActionError) → List (Deed U) → List (Result Handed IoFault)
told_by None did = []
told_by (Some (Ok h)) did = Ok h ∷ []
told_by (Some (Err ActionOpen)) did = []
told_by (Some (Err (Io fault.WouldBlock))) did = []
told_by (Some (Err (Io f))) did = if was_killed did then Err f ∷ [] else []

module _ {T U G C : Type 0} where
  -- the actions that were handed out, and why nothing more was read, in order
  abbrev pub handed_out : List (Own T U G C) → List (Result Handed IoFault)
  handed_out [] = []
  handed_out (e ∷ run) = told_by (reading_by e.call) e.did ++ handed_out run

  -- the last entry is a reading that answers `WouldBlock`
  abbrev pub EndsWaiting : List (Own T U G C) → Type 0
  EndsWaiting [] = ⊥
  EndsWaiting (e ∷ []) = reading_by e.call ≡ Some (Err (Io fault.WouldBlock))
  EndsWaiting (e ∷ run) = EndsWaiting run

-- ---- the law

module _ {U C : Type 0} where
  abbrev pub arrivals_in : Part Script U C → List (Result Queue IoFault)
  arrivals_in p = arrivals_of (reader_part p)

  -- the arrivals that were not received yet, joined
  abbrev pub left_in : Part Script U C → Queue
  left_in p = left_over (arrivals_in p)

module _ {U G C : Type 0} (a : Around G C) where
  -- The run begins with a live client. It ends with a killed one, with an open action, or with a reading that would block,
  -- and no arrival is left.
  pub record Spans (before : Part Script U C) (run : List (Own Script U G C)) (after : Part Script U C) : Type 0 where
    pub heard : AllHeard a.client run
    pub live : before.is_killed ≡ false
    pub pieces : AllPieces (arrivals_in before)
    pub ends : (reads_on (core_of after) ≡ false) ⊎ (EndsWaiting run × (arrivals_in after ≡ []))

  -- A stretch in which no receive found the buffer full: if the client was killed while bytes or tokens were lacking, then a
  -- byte is free, or the rest of the message at the front may come, for which a receive finds a byte free.
  pub record IsStretch (before : Part Script U C) (run : List (Own Script U G C)) (after : Part Script U C) : Type 0 where
    pub spans : Spans before run after
    pub roomy : after.is_killed ≡ true → Lacks ScriptSends (server a) (reader_part after)
        → HasByteFree after.link ⊎ MayCome (server a) (core_of after) after.link

  -- A stretch of messages that are no longer than the incoming buffer may become, and whose tokens come no later than the
  -- last byte: if the client was killed, the message at the front does not lack tokens alone.
  pub record IsStretchWithin (before : Part Script U C) (run : List (Own Script U G C)) (after : Part Script U C) : Type 0 where
    pub spans : Spans before run after
    pub within : EachWithin (incoming_limit before.link.limit) (joined before.link.incoming (joined (left_in before) (arrived run))).bytes
    pub in_time : after.is_killed ≡ true → LacksTokens (server a) (core_of after) after.link → ⊥

  -- What the stretch gave, and the client after it, are what is served of all that arrived, with the finishes that were
  -- accepted, over the script's answers to the sends. So are its deeds, beside sends and receives, and its answers.
  pub record StretchIsServed (before : Part Script U C) (run : List (Own Script U G C)) (after : Part Script U C) : Type 0 where
    pub gave : List (Given (Told U))
    pub end : ReaderState Script (Core U C)
    pub served : Served ScriptSends (server a) (reader_part before) (joined (left_in before) (arrived run)) (sending_side before.link.transport) (finished run) gave
        (state_as end (left_in after) (sending_side after.link.transport))
    pub leads : after ≡ part_of end
    pub deeds : beside_exchanges (history run) ≡ deeds_in gave ++ end_deeds end.core.ended
    pub answers : handed_out run ≡ answers_in gave

module _ {U C : Type 0} where
  -- the same is held of both clients, if what waits and the arrivals that were not received yet are joined
  abbrev pub SameLeft : Part Script U C → Part Script U C → Type 0
  SameLeft p q =
      state_as (reader_part p) (left_in p) (sending_side p.link.transport) ≡ state_as (reader_part q) (left_in q) (sending_side q.link.transport)

-- ---- runs of a server

module _ {U G C : Type 0} where
  -- if the client's own run is a stretch, it gives what is served; and one of messages that are short enough is a stretch
  abbrev pub CutsStretch : Around G C → Part Script U C → List (Own Script U G C) → Part Script U C → Type 0
  CutsStretch a p run q = (IsStretch a p run q → StretchIsServed a p run q) × (IsStretchWithin a p run q → IsStretch a p run q)

  -- so it is with each client that was there before and is stored in the end
  abbrev pub EachIsCut : (G → ClientParts → C → GlobalParts → Bool) → ServerState Script U G C → List (Entry Script U G C) → ServerState Script U G C → Type 0
  EachIsCut views begun run after =
      (id : ClientParts) (p q : Part Script U C) → id.serial ≤ begun.last_client → (seen id begun).part ≡ Some p → (seen id after).part ≡ Some q
      → CutsStretch (around (over_scripts views) id begun.offer) p (mine id run) q

  -- so it is with each part of a run
  abbrev pub EachPartIsCut : (G → ClientParts → C → GlobalParts → Bool) → ServerState Script U G C → List (Entry Script U G C) → Type 0
  EachPartIsCut views begun run = EachPart (Leads (over_scripts views)) (EachIsCut views) begun run
