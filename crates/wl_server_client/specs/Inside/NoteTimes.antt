-- How notes get their numbers.
use Rattle.std.specs.Prelude.{◌≡◌, ℕ, Bool, length, Option}
use Rattle.wl_server_client.specs.declared.notes.Happening.{Happening}
use Rattle.wl_server_client.specs.declared.notes.queues.NoteNumbers.{NoteNumbers}
use Rattle.wl_server_client.specs.declared.notes.queues.NotePlace.{NotePlace}
use Rattle.wl_server_client.specs.NoteTimes.{number_after, places_of, times_of, to_gather}
use Rattle.wl_server_client.specs.Stored.{Stored}

-- the numbers after a note was made under the next of them
abbrev pub one_made : NoteNumbers → NoteNumbers
one_made numbers = record numbers { made = number_after numbers.made }

-- the numbers after a note that waits got the next of them
abbrev pub one_waits : NoteNumbers → NoteNumbers
one_waits numbers = record numbers { waiting = number_after numbers.waiting }

-- the place of a note with its number, at a slot; the note waits for a cleanup or not
abbrev pub place_of : {U : Type 0} → Bool → ℕ → ℕ × Happening U → NotePlace
place_of waits slot note = record { waits = waits; number = note.0; slot = slot }

-- each note of a client that is gathered has a number
abbrev pub AreNumbered : {T U C : Type 0} → Bool → Option (Stored T U C) → Type 0
AreNumbered waits x = length (places_of waits 0 (times_of x)) ≡ length (to_gather waits x)
