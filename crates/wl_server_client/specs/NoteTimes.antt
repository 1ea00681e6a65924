-- The numbers of the notes of a client.
use Rattle.std.specs.Prelude.{◌≡◌, ℕ, zero, suc, ◌+◌, ◌-◌, ◌^◌, ◌≤◌, min, Bool, true, false, if◌then◌else◌, List, [], ◌∷◌, ◌++◌, length, map, Option, None, Some}
use Rattle.std.specs.Option.{option_map_or}
use Rattle.wl_server_client.specs.declared.notes.Happening.{Happening}
use Rattle.wl_server_client.specs.declared.notes.queues.NoteNumbers.{NoteNumbers}
use Rattle.wl_server_client.specs.declared.notes.queues.NotePlace.{NotePlace}
use Rattle.wl_server_client.specs.Stored.{NoteTimes, Stored, no_times}

-- the greatest number: as long as the next number is below it, no number was given twice
abbrev pub last_number : ℕ
last_number = 2 ^ 128 - 1

-- the number after this one; after the greatest, that one again
abbrev pub number_after : ℕ → ℕ
number_after n = min (n + 1) (2 ^ 128 - 1)

-- so many numbers, one after the other
abbrev pub numbers_from : ℕ → ℕ → List ℕ
numbers_from next zero = []
numbers_from next (suc count) = next ∷ numbers_from (number_after next) count

-- the number after so many numbers
abbrev pub number_past : ℕ → ℕ → ℕ
number_past next zero = next
number_past next (suc count) = number_past (number_after next) count

-- the numbers rise from `low` on, and are below `next`
abbrev pub RiseWithin : ℕ → List ℕ → ℕ → Type 0
RiseWithin low [] next = low ≤ next
RiseWithin low (n ∷ ns) next = (low ≤ n) × RiseWithin (n + 1) ns next

-- The numbers that were next were given. They stand behind those that were there.
pub record GivesNumbers (ns : List ℕ) (next : ℕ) (ns' : List ℕ) (next' : ℕ) : Type 0 where
  pub more : List ℕ
  pub behind : ns' ≡ ns ++ more
  pub given : more ≡ numbers_from next (length more)
  pub past : next' ≡ number_past next (length more)

-- Notes of a client were made, or wait, under the numbers that were next.
pub record NotesInTime (before : NoteTimes) (numbers : NoteNumbers) (after : NoteTimes) (numbers' : NoteNumbers) : Type 0 where
  pub made : GivesNumbers before.made numbers.made after.made numbers'.made
  pub waiting : GivesNumbers before.waiting numbers.waiting after.waiting numbers'.waiting

abbrev pub times_of : {T U C : Type 0} → Option (Stored T U C) → NoteTimes
times_of None = no_times
times_of (Some s) = s.times

-- each note of the client, if there is one, has a number
abbrev pub IsNumbered : {T U C : Type 0} → Option (Stored T U C) → Type 0
IsNumbered x =
    (length (times_of x).made ≡ length (option_map_or (λ s. s.made) x []))
    × (length (times_of x).waiting ≡ length (option_map_or (λ s. s.part.waiting) x []))

-- the first notes of a client were taken, with their numbers
pub record TakesFirst (before after : NoteTimes) : Type 0 where
  pub made : List ℕ
  pub waiting : List ℕ
  pub of_made : before.made ≡ made ++ after.made
  pub of_waiting : before.waiting ≡ waiting ++ after.waiting

-- the notes of a slot's client that are gathered, in order: those that were made, and then, if they are to be gathered
-- too, those that wait
abbrev pub to_gather : {T U C : Type 0} → Bool → Option (Stored T U C) → List (Happening U)
to_gather waits None = []
to_gather waits (Some s) = s.made ++ (if waits then s.part.waiting else [])

-- the place of a note with this number
abbrev pub place_at : Bool → ℕ → ℕ → NotePlace
place_at waits slot n = record { waits = waits; number = n; slot = slot }

-- the places of the notes of the client of a slot that are gathered
abbrev pub places_of : Bool → ℕ → NoteTimes → List NotePlace
places_of waits slot t = map (place_at false slot) t.made ++ (if waits then map (place_at true slot) t.waiting else [])
