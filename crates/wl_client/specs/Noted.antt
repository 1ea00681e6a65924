-- The notes of a history: of each object that ended with user data there is one, and of no other.
use Rattle.std.specs.Prelude.{◌≡◌, ◌≢◌, List, [], ◌∷◌, ◌++◌, map, AllPairs}
use Rattle.wl_link.specs.Identity.{Change}
use Rattle.wl_client.specs.declared.objects.Kept.{Kept}
use Rattle.wl_client.specs.declared.objects.Note.{Note}
use Rattle.wl_client.specs.Handed.{HasOwnIds, ended_notes, note_ids, notes_by}
use Rattle.wl_client.specs.Histories.{Deed}
use Rattle.wl_client.specs.Session.{SessionState, id_of}
use Rattle.wl_client.specs.Steps.{Making}

module _ {T U : Type 0} where
  -- the notes that the replies of a history hand out, in order
  abbrev pub notes_of : List (Deed T U) → List Note
  notes_of [] = []
  notes_of (d ∷ deeds) = notes_by d ++ notes_of deeds

module _ {U : Type 0} where
  -- the notes of the objects that end over the steps of a history, in order
  abbrev pub all_ended_notes : List (List (Change (Kept U))) → List Note
  all_ended_notes [] = []
  all_ended_notes (changes ∷ rest) = ended_notes changes ++ all_ended_notes rest

module _ {T U : Type 0} (makes : Making T U) where
  -- The notes that a history handed out, and then those that still wait, are those of the objects that ended with user data
  -- by the history's changes (`HasOwnIds`), in order. Any two of their ids differ in number or serial.
  pub record NotesWhatEnded (begins : SessionState T U) (deeds : List (Deed T U)) (ends : SessionState T U) : Type 0 where
    pub ids : HasOwnIds makes begins deeds ends
    pub exact : notes_of deeds ++ ends.notes ≡ all_ended_notes ids.changes
    pub once : AllPairs (λ a b. a ≢ b) (map id_of (note_ids (notes_of deeds ++ ends.notes)))
