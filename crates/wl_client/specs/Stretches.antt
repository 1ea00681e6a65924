-- A *stretch* of a run: entries in which bytes arrive, and events are read and finished.
use Rattle.std.specs.Prelude.{◌≡◌, ◌≢◌, ◌⊎◌, List, [], ◌∷◌, ◌++◌, false, Option, None, Some, Ok, Err}
use Rattle.wl_wire.specs.declared.error.IoFault.TheVariants as fault
use Rattle.wl_wire.specs.declared.error.MessageParseError.TheVariants as parse
use Rattle.wl_link.specs.Exchange.{Queue, joined, nothing}
use Rattle.wl_link.specs.Link.{EachWithin, incoming_limit}
use Rattle.wl_link.specs.Reader.{Given}
use Rattle.wl_link.specs.Script.{Script, ScriptSends}
use Rattle.wl_link.specs.Served.{Served, state_as}
use Rattle.wl_link.specs.Stretch.{AllPieces, arrivals_of, left_over, sending_side}
use Rattle.wl_client.specs.declared.error.EventError.TheVariants as no_event
use Rattle.wl_client.specs.declared.error.WaylandError.TheVariants.{Io}
use Rattle.wl_client.specs.declared.step.Reply.{Reply}
use Rattle.wl_client.specs.declared.step.Reply.TheVariants as reply
use Rattle.wl_client.specs.declared.step.Step.{Step}
use Rattle.wl_client.specs.declared.step.Step.TheVariants as step
use Rattle.wl_client.specs.Histories.{Deed, History, called}
use Rattle.wl_client.specs.Reading.{ReadsAs, client, event_content, handed_by, reader_state_of, reads_on}
use Rattle.wl_client.specs.Requests.{SessionMessage}
use Rattle.wl_client.specs.Session.{SessionState, core_of}
use Rattle.wl_client.specs.Steps.{Entry, Leads, StepOf}

module _ {U : Type 0} where
  -- ---- its entries

  -- an arrival of at least one byte that was accepted, or of the fault `WouldBlock`; a reading; or a finish
  abbrev pub IsHeard : Step U → Reply U → Type 0
  IsHeard (step.Arrive bytes tokens) answer = (bytes.items ≢ []) × (answer ≡ reply.Arrive (Ok tt))
  IsHeard (step.ArriveFault f) answer = f ≡ fault.WouldBlock
  IsHeard step.NextEvent answer = Unit {0}
  IsHeard (step.FinishEvent u) answer = Unit {0}
  IsHeard _ answer = ⊥

  -- each entry is one of these, and memory was not refused in it
  abbrev pub AllHeard : List (Entry U) → Type 0
  AllHeard [] = Unit {0}
  AllHeard (e ∷ run) = (e.refused ≡ false) × IsHeard e.step e.answer × AllHeard run

  abbrev pub arrived_by : Step U → Queue
  arrived_by (step.Arrive bytes tokens) = record { bytes = bytes.items; tokens = tokens.items }
  arrived_by _ = nothing

  -- what arrived in all
  abbrev pub arrived : List (Entry U) → Queue
  arrived [] = nothing
  arrived (e ∷ run) = joined (arrived_by e.step) (arrived run)

  abbrev pub if_accepted : Option U → Reply U → List (Option U)
  if_accepted u (reply.FinishEvent (Ok _)) = u ∷ []
  if_accepted u _ = []

  abbrev pub finished_by : Step U → Reply U → List (Option U)
  finished_by (step.FinishEvent u) answer = if_accepted u answer
  finished_by _ answer = []

  -- the data of the finishes that were accepted
  abbrev pub finished : List (Entry U) → List (Option U)
  finished [] = []
  finished (e ∷ run) = finished_by e.step e.answer ++ finished run

  abbrev pub events_by : Reply U → List (Given SessionMessage)
  events_by (reply.NextEvent r) = handed_by (event_content r)
  events_by _ = []

  -- the events that were handed out
  abbrev pub events_of : List (Entry U) → List (Given SessionMessage)
  events_of [] = []
  events_of (e ∷ run) = events_by e.answer ++ events_of run

  -- the last entry is a reading that answers `WouldBlock`
  abbrev pub EndsWaiting : List (Entry U) → Type 0
  EndsWaiting [] = ⊥
  EndsWaiting (e ∷ []) = e.answer ≡ reply.NextEvent (Err no_event.WouldBlock)
  EndsWaiting (e ∷ run) = EndsWaiting run

  -- ---- the law

  -- The run begins with no error stored. It ends with a stored error, with an open event, or with a reading that would
  -- block, and no arrival is left.
  pub record Spans (before : SessionState Script U) (run : List (Entry U)) (after : SessionState Script U) : Type 0 where
    pub heard : AllHeard run
    pub live : before.error ≡ None
    pub pieces : AllPieces (arrivals_of (reader_state_of before))
    pub ends : (reads_on (core_of after) ≡ false) ⊎ (EndsWaiting run × (arrivals_of (reader_state_of after) ≡ []))

  -- A stretch in which no receive found the buffer full. Since each arrival brings a byte, only a receive into a full buffer
  -- gives none, and it ends the session with `Pipe`.
  pub record IsStretch (before : SessionState Script U) (run : List (Entry U)) (after : SessionState Script U) : Type 0 where
    pub spans : Spans before run after
    pub roomy : after.error ≢ Some (Io fault.Pipe)

  -- the arrivals that were not received yet, joined
  abbrev pub left_in : SessionState Script U → Queue
  left_in s = left_over (arrivals_of (reader_state_of s))

  -- A stretch of messages that are no longer than the incoming buffer may become, and whose tokens come no later than the
  -- last byte: if it ends with `Pipe`, the message at the front does not lack tokens alone.
  pub record IsStretchWithin (before : SessionState Script U) (run : List (Entry U)) (after : SessionState Script U) : Type 0 where
    pub spans : Spans before run after
    pub within : EachWithin (incoming_limit before.link.limit) (joined before.link.incoming (joined (left_in before) (arrived run))).bytes
    pub in_time : after.error ≡ Some (Io fault.Pipe) → ReadsAs after (Err parse.MissingFD) after.link → ⊥

  -- What the run handed out, and the session after it, are what is served of all that arrived, with the finishes that were
  -- accepted.
  abbrev pub IsRunServed : SessionState Script U → List (Entry U) → SessionState Script U → Type 0
  IsRunServed before run after =
      Served ScriptSends client (reader_state_of before) (joined (left_in before) (arrived run)) (sending_side before.link.transport) (finished run) (events_of run)
      (state_as (reader_state_of after) (left_in after) (sending_side after.link.transport))

  -- two sessions hold the same, if what waits and the arrivals that were not received yet are joined
  abbrev pub SameLeft : SessionState Script U → SessionState Script U → Type 0
  SameLeft s t =
      state_as (reader_state_of s) (left_in s) (sending_side s.link.transport) ≡ state_as (reader_state_of t) (left_in t) (sending_side t.link.transport)

  -- ---- runs

  -- if the run is a stretch, it gives what is served; and one of messages that are short enough is a stretch
  abbrev pub CutsStretch : SessionState Script U → List (Entry U) → SessionState Script U → Type 0
  CutsStretch before run after = (IsStretch before run after → IsRunServed before run after) × (IsStretchWithin before run after → IsStretch before run after)

  -- So it is with each part of a history that is a run: whenever the deeds before the part lead from its begin to where the
  -- part begins, and the part leads on from there.
  abbrev pub EachPartIsCut : SessionState Script U → List (Deed Script U) → Type 0
  EachPartIsCut begun deeds =
      (earlier later : List (Deed Script U)) (part : List (Entry U)) (first last : SessionState Script U)
      → deeds ≡ earlier ++ (called part ++ later) → History StepOf begun earlier first → Leads first part last → CutsStretch first part last
