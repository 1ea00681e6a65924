-- The notes of all clients over a run: those that were there at an earlier point come first, and so do those that waited.
use Rattle.std.specs.Prelude.{◌≡◌, ◌<◌, Bool, List, [], ◌∷◌, ◌++◌, Ok, Vec}
use Rattle.std.specs.Global.{Global}
use Rattle.wl_wire.specs.Table.{InterfaceRow}
use Rattle.wl_server_client.specs.declared.notes.Note.{Note}
use Rattle.wl_server_model.specs.declared.step.Reply.TheVariants as reply
use Rattle.wl_server_model.specs.declared.step.Step.TheVariants as step
use Rattle.wl_server_model.specs.Identified.{waiting_of}
use Rattle.wl_server_client.specs.Ids.{ClientParts}
use Rattle.wl_server_client.specs.NoteTimes.{last_number}
use Rattle.wl_server_model.specs.PartStep.{Asked, Call, World}
use Rattle.wl_server_model.specs.Runs.{Leads}
use Rattle.wl_server_model.specs.Server.{ServerState, new_server, notes_of, seen}
use Rattle.wl_server_model.specs.Steps.{Entry, StepOf}

module _ {T U G C : Type 0} where
  -- the call does not hand out notes
  abbrev pub HandsOutNone : Call T U G C → Type 0
  HandsOutNone call = (out : Vec (Note U) Global) → call ≡ Asked step.TakeNotes (reply.TakeNotes (Ok out)) → ⊥

  -- no call of the run does
  abbrev pub NoneHandedOut : List (Entry T U G C) → Type 0
  NoneHandedOut [] = Unit {0}
  NoneHandedOut (e ∷ run) = HandsOutNone e.call × NoneHandedOut run

module _ {T G C : Type 0} (U : Type 0) (w : World T G C) where
  -- What would have been handed out at an earlier point of a run comes first in what is handed out at a later one, if nothing
  -- was handed out in between. As long as fewer notes than the greatest number were made, that is.
  abbrev pub EarlierNotesFirst : List InterfaceRow → Type 0
  EarlierNotesFirst table =
      (done between : List (Entry T U G C)) (point mid point' mid' : ServerState T U G C) (early late : Vec (Note U) Global) (refused refused' : Bool) →
      Leads w (new_server table) done point → Leads w point between mid → NoneHandedOut between → mid.numbers.made < last_number →
      StepOf w point step.TakeNotes (reply.TakeNotes (Ok early)) refused point' → StepOf w mid step.TakeNotes (reply.TakeNotes (Ok late)) refused' mid' →
      (rest : List (Note U)) × (late.items ≡ early.items ++ rest)

-- ---- notes that wait

module _ {T U G C : Type 0} where
  -- the call is no cleanup that succeeds
  abbrev pub CleansNothing : Call T U G C → Type 0
  CleansNothing call = (out : Vec (ClientParts × T) Global) → call ≡ Asked step.Cleanup (reply.Cleanup (Ok out)) → ⊥

  -- no call of the run is
  abbrev pub NothingCleaned : List (Entry T U G C) → Type 0
  NothingCleaned [] = Unit {0}
  NothingCleaned (e ∷ run) = CleansNothing e.call × NothingCleaned run

  -- What a cleanup leaves: the notes that were made, those that waited, and those of the ends of clients that it took out. So it
  -- is of each client.
  pub record LeavesNotes (before after : ServerState T U G C) : Type 0 where
    pub made : List (Note U)
    pub waited : List (Note U)
    pub ends : List (Note U)
    pub are : after.notes ≡ made ++ (waited ++ ends)
    pub each_made : (id : ClientParts) → notes_of id made ≡ (seen id before).made
    pub each_waited : (id : ClientParts) → notes_of id waited ≡ waiting_of (seen id before).part

module _ {T G C : Type 0} (U : Type 0) (w : World T G C) where
  -- Those that waited at an earlier point of a run come first among those that waited at a later one, as a cleanup leaves them,
  -- if there was no cleanup in between. As long as fewer notes than the greatest number wait, that is.
  abbrev pub EarlierWaitFirst : List InterfaceRow → Type 0
  EarlierWaitFirst table =
      (done between : List (Entry T U G C)) (point mid point' mid' : ServerState T U G C) (early late : Vec (ClientParts × T) Global) (refused refused' : Bool) →
      Leads w (new_server table) done point → Leads w point between mid → NothingCleaned between → mid.numbers.waiting < last_number →
      StepOf w point step.Cleanup (reply.Cleanup (Ok early)) refused point' → StepOf w mid step.Cleanup (reply.Cleanup (Ok late)) refused' mid' →
      (first : LeavesNotes point point') × (second : LeavesNotes mid mid') × (rest : List (Note U)) × (second.waited ≡ first.waited ++ rest)
