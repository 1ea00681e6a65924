-- The ids that a session hands out, and what they name.
--
-- Each step of a run has a list of changes (`Change` of `wl_link`): an object is put at a number, leaves its number, is
-- written to, or ends; or an id is made of it. Each id that a reply hands out is made so, and what an id names follows from
-- the changes alone. They exist in contracts only.
use Rattle.std.specs.Prelude.{◌≡◌, ◌≢◌, List, [], ◌∷◌, ◌++◌, map, All, Bool, Some, IsSome, Contains, Result, Ok, Err}
use Rattle.wl_link.specs.Identity.{Birth, Change, Ended, IsBornInStep, IsMadeInStep, HasIdentity, births_of, RunEnds, StepEnds, first_objects, HandedId, Found, New, argument_ids}
use Rattle.wl_client.specs.declared.error.EventError.{EventError}
use Rattle.wl_client.specs.declared.error.RequestError.{RequestError}
use Rattle.wl_client.specs.declared.objects.Kept.{Kept}
use Rattle.wl_client.specs.declared.objects.Note.{Note}
use Rattle.wl_client.specs.declared.objects.Note.TheVariants.{Destroyed}
use Rattle.wl_client.specs.declared.step.Reply.{Reply}
use Rattle.wl_client.specs.declared.step.Reply.TheVariants as reply
use Rattle.wl_client.specs.Histories.{Deed, Does, Called, Changed, Grown}
use Rattle.wl_client.specs.ObjectId.{IdParts}
use Rattle.wl_client.specs.Objects.{info_of}
use Rattle.wl_client.specs.Reading.{event_content}
use Rattle.wl_client.specs.Requests.{SessionMessage}
use Rattle.wl_client.specs.Session.{SessionState, id_at, id_of, serial_of, display_object, noted, objects_of}
use Rattle.wl_client.specs.Steps.{Making}

-- ---- the ids of a reply

-- the id of the object that a request made
abbrev pub request_ids : Result IdParts RequestError → List (HandedId IdParts)
request_ids (Ok id) = New id ∷ []
request_ids (Err e) = []

-- the ids of an event: its sender's, and those among its arguments
abbrev pub event_ids : Result SessionMessage EventError → List (HandedId IdParts)
event_ids (Ok m) = Found m.sender ∷ argument_ids m.args
event_ids (Err e) = []

-- the ids that a reply hands out, but for those of notes
abbrev pub ids_in : {U : Type 0} → Reply U → List (HandedId IdParts)
ids_in (reply.SendRequest r) = request_ids r
ids_in (reply.NextEvent r) = event_ids (event_content r)
ids_in _ = []

-- the notes that a reply hands out
abbrev pub notes_in : {U : Type 0} → Reply U → List Note
notes_in (reply.TakeNotes notes) = notes.items
notes_in _ = []

abbrev pub note_ids : List Note → List IdParts
note_ids [] = []
note_ids (Destroyed id ∷ notes) = id ∷ note_ids notes

-- ---- what they name

-- an object is no longer the program's: the client destroyed it, or an event did
abbrev pub is_over : {U : Type 0} → Kept U → Bool
is_over k = k.client_destroyed

module _ {U : Type 0} where
  -- the notes of the objects with user data that end in a step, in order
  abbrev pub ended_notes : List (Change (Kept U)) → List Note
  ended_notes [] = []
  ended_notes (Ended n x _ ∷ rest) = noted [] x.value.user_data (id_at n x) ++ ended_notes rest
  ended_notes (_ ∷ rest) = ended_notes rest

  -- The id is made in this step, of an object that it then names; a new one is made of an object that the step puts in
  -- place. An id of the number 0 names none.
  abbrev pub IsHandedIn : List (Change (Kept U)) → HandedId IdParts → Type 0
  IsHandedIn changes (Found id) = id.number ≢ 0 → IsMadeInStep changes (id_of id)
  IsHandedIn changes (New id) = id.number ≢ 0 → IsMadeInStep changes (id_of id) × IsBornInStep serial_of changes (id_of id)

module _ {T U : Type 0} where
  -- the ids and the notes that a deed hands out; only a call hands out any
  abbrev pub ids_by : Deed T U → List (HandedId IdParts)
  ids_by (Called e) = ids_in e.answer
  ids_by (Changed t) = []
  ids_by (Grown rows answer) = []

  abbrev pub notes_by : Deed T U → List Note
  notes_by (Called e) = notes_in e.answer
  notes_by (Changed t) = []
  notes_by (Grown rows answer) = []

module _ {T U : Type 0} (makes : Making T U) where
  -- The deeds of a history lead from `s` to `after`. For each deed there is a list of changes, which lead the objects
  -- along; an object ends in it exactly if it becomes no longer the program's. The ids of the reply, and those of the new
  -- notes, are made in it. The notes that waited, and then those of the objects that end in the step, are those that the
  -- reply hands out, and then those that wait after the step.
  abbrev pub Follows : SessionState T U → List (Deed T U) → List (List (Change (Kept U))) → SessionState T U → Type 0
  Follows s [] [] after = after ≡ s
  Follows s [] (changes ∷ rest) after = ⊥
  Follows s (d ∷ deeds) [] after = ⊥
  Follows s (d ∷ deeds) (changes ∷ rest) after =
      (mid : SessionState T U) × Does makes s d mid
      × StepEnds serial_of is_over (objects_of s) changes (objects_of mid)
      × All (IsHandedIn changes) (ids_by d)
      × (s.notes ++ ended_notes changes ≡ notes_by d ++ mid.notes)
      × All (IsHandedIn changes) (map Found (note_ids (ended_notes changes)))
      × Follows mid deeds rest after

  -- A history from the connecting on has a list of changes for each deed, which lead to the objects that it ends with. The
  -- kept serials are distinct, and each id that was handed out names the object that it was made of exactly while that is
  -- kept, and afterwards none. So `info` answers for an id only while that very object is kept.
  pub record HasOwnIds (begins : SessionState T U) (deeds : List (Deed T U)) (ends : SessionState T U) : Type 0 where
    pub changes : List (List (Change (Kept U)))
    pub follows : Follows begins deeds changes ends
    pub ends_so : RunEnds serial_of is_over (first_objects display_object) changes (objects_of ends)
    pub identity : HasIdentity serial_of changes (objects_of ends)
    pub info : (id : IdParts) (birth : Birth) → Contains (births_of changes).made (id_of id, birth) → IsSome (info_of ends id)
        → (births_of changes).of_number id.number ≡ Some birth
