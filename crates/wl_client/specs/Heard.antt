-- A part of a history over any transport in which events are read and finished, and what its readings received.
use Rattle.std.specs.Prelude.{◌≡◌, ℕ, List, [], ◌∷◌, ◌++◌, false, Option, Result, MatchOption}
use Rattle.wl_wire.specs.declared.error.IoFault.{IoFault}
use Rattle.wl_link.specs.Exchange.{Queue}
use Rattle.wl_link.specs.Reader.{Given, Gives, Reads, Turn}
use Rattle.wl_client.specs.declared.step.Step.{Step}
use Rattle.wl_client.specs.declared.step.Step.TheVariants as step
use Rattle.wl_client.specs.Histories.{Called, Changed, Deed, Does, Grown}
use Rattle.wl_client.specs.Reading.{client, reader_state_of, receives_allowed}
use Rattle.wl_client.specs.Requests.{SessionMessage}
use Rattle.wl_client.specs.Session.{SessionState}
use Rattle.wl_client.specs.Steps.{CallOf}
use Rattle.wl_client.specs.Stretches.{events_by, finished_by}

-- a reading or a finish
abbrev pub IsOfEvents : {U : Type 0} → Step U → Type 0
IsOfEvents step.NextEvent = Unit {0}
IsOfEvents (step.FinishEvent u) = Unit {0}
IsOfEvents _ = ⊥

module _ {T U : Type 0} where
  -- a reading or a finish in which memory was not refused, or a change of the transport
  abbrev pub IsHeard : Deed T U → Type 0
  IsHeard (Called e) = (e.refused ≡ false) × IsOfEvents e.step
  IsHeard (Changed t) = Unit {0}
  IsHeard (Grown rows answer) = ⊥

  -- each of the deeds is one of these
  abbrev pub AllHeard : List (Deed T U) → Type 0
  AllHeard [] = Unit {0}
  AllHeard (d ∷ deeds) = IsHeard d × AllHeard deeds

  abbrev pub finished_in_deed : Deed T U → List (Option U)
  finished_in_deed (Called e) = finished_by e.step e.answer
  finished_in_deed (Changed t) = []
  finished_in_deed (Grown rows answer) = []

  -- the data of the finishes that were accepted
  abbrev pub finished_in : List (Deed T U) → List (Option U)
  finished_in [] = []
  finished_in (d ∷ deeds) = finished_in_deed d ++ finished_in deeds

  abbrev pub events_in_deed : Deed T U → List (Given SessionMessage)
  events_in_deed (Called e) = events_by e.answer
  events_in_deed (Changed t) = []
  events_in_deed (Grown rows answer) = []

  -- the events that were handed out
  abbrev pub events_in : List (Deed T U) → List (Given SessionMessage)
  events_in [] = []
  events_in (d ∷ deeds) = events_in_deed d ++ events_in deeds

module _ {T U : Type 0} (sends : T → Queue → Result ℕ IoFault → T → Type 0) (receives : T → ℕ → Result Queue IoFault → T → Type 0) where
  -- The turns of a reading that hands this out: its receives and messages. A session that has an error or an open event reads
  -- nothing, and has none.
  abbrev pub ReadTurns : SessionState T U → List (Given SessionMessage) → List Turn → SessionState T U → Type 0
  ReadTurns before gave turns after =
      MatchOption before.error
      (MatchOption before.open_event
      ((out : Gives SessionMessage) × Reads sends client receives receives_allowed (reader_state_of before) turns out (reader_state_of after)
      × (out.gave ≡ gave) × (out.refused ≡ false))
      (λ _. turns ≡ []))
      (λ _. turns ≡ [])

  abbrev pub TurnsOfStep : SessionState T U → Step U → List (Given SessionMessage) → List Turn → SessionState T U → Type 0
  TurnsOfStep before step.NextEvent gave turns after = ReadTurns before gave turns after
  TurnsOfStep before _ gave turns after = turns ≡ []

  -- the turns of a deed; only readings have any
  abbrev pub TurnsOf : SessionState T U → Deed T U → List Turn → SessionState T U → Type 0
  TurnsOf before (Called e) turns after = TurnsOfStep before e.step (events_by e.answer) turns after
  TurnsOf before (Changed t) turns after = turns ≡ []
  TurnsOf before (Grown rows answer) turns after = turns ≡ []

  -- the deeds lead from one value of the session to another, and these are the turns of their readings, one after another
  abbrev pub Hears : SessionState T U → List (Deed T U) → List Turn → SessionState T U → Type 0
  Hears before [] turns after = (turns ≡ []) × (after ≡ before)
  Hears before (d ∷ deeds) turns after =
      (mid : SessionState T U) × (first : List Turn) × (rest : List Turn) × (turns ≡ first ++ rest)
      × Does (CallOf sends receives) before d mid × TurnsOf before d first mid × Hears mid deeds rest after
