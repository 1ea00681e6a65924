-- The numbers of notes, and in which order notes are gathered over all clients.
--
-- Each note that is kept with its client has a number: the notes that were made count by themselves, and so do those that wait for a
-- cleanup. So the numbers say in which order the notes of all clients came about.
pub mod Ordered
use Rattle.std.specs.Prelude.{◌≡◌, ℕ, zero, suc, ◌+◌, ◌<◌, ◌≤◌, ◌==◌, Bool, IsTrue, if◌then◌else◌, List, [], ◌∷◌, ◌++◌, Contains, IsPermutation, length, map, Option, slice_get}
use Rattle.std.specs.List.{AllAdjacentBelow, sum_by}
use Rattle.std.specs.Option.{option_map_or}
use Rattle.wl_server_client.specs.declared.notes.Note.{Note}
use Rattle.wl_server_client.specs.declared.notes.Note.TheVariants.{Initialized, Disconnected, Destroyed}
use Rattle.wl_server_client.specs.declared.notes.queues.NoteNumbers.{NoteNumbers}
use Rattle.wl_server_client.specs.declared.notes.queues.NotePlace.{NotePlace}
use Rattle.wl_server_client.specs.Stored.{NoteTimes, Stored, no_times}
use Rattle.wl_server_model.specs.Server.{stored_at}
use Rattle.wl_server_client.specs.NoteTimes.{GivesNumbers, IsNumbered, RiseWithin, TakesFirst, last_number, places_of, times_of, to_gather}

-- ---- the numbers of the notes of all clients

-- the numbers of the notes of the client of a slot
abbrev pub times_at : ℕ → List NoteTimes → NoteTimes
times_at slot clients = option_map_or (λ t. t) (slice_get clients slot) no_times

-- it is so of the client of each slot
abbrev pub AllNumbered : {T U C : Type 0} → List (Option (Stored T U C)) → Type 0
AllNumbered clients = (slot : ℕ) → IsNumbered (stored_at slot clients)

-- Of one kind of notes: the numbers of each client rise and are below the next, and no two clients have a number in common.
pub record AreInTime (of : NoteTimes → List ℕ) (next : ℕ) (clients : List NoteTimes) : Type 0 where
  pub rise : (slot : ℕ) → RiseWithin 0 (of (times_at slot clients)) next
  pub apart : (i j n : ℕ) → Contains (of (times_at i clients)) n → Contains (of (times_at j clients)) n → i ≡ j

-- it is so of the notes that were made, and of those that wait, as long as not all numbers are used up
pub record HasNumbers (numbers : NoteNumbers) (clients : List NoteTimes) : Type 0 where
  pub made : numbers.made < last_number → AreInTime (λ t. t.made) numbers.made clients
  pub waiting : numbers.waiting < last_number → AreInTime (λ t. t.waiting) numbers.waiting clients

-- Of one kind of notes: from the least slot on, each client of a slot below this one got the numbers that were next.
abbrev pub InTurn : (NoteTimes → List ℕ) → ℕ → List NoteTimes → ℕ → List NoteTimes → ℕ → Type 0
InTurn of zero before next after next' = next' ≡ next
InTurn of (suc slot) before next after next' =
    (mid : ℕ) × InTurn of slot before next after mid × GivesNumbers (of (times_at slot before)) mid (of (times_at slot after)) next'

-- Notes of clients below a slot were made, or wait, each under a number of its own. The clients got numbers in turn.
pub record InTimeBelow (slots : ℕ) (before : List NoteTimes) (numbers : NoteNumbers) (after : List NoteTimes) (numbers' : NoteNumbers) : Type 0 where
  pub made : InTurn (λ t. t.made) slots before numbers.made after numbers'.made
  pub waiting : InTurn (λ t. t.waiting) slots before numbers.waiting after numbers'.waiting
  pub others : (slot : ℕ) → slots ≤ slot → times_at slot after ≡ times_at slot before
  pub keeps : HasNumbers numbers before → HasNumbers numbers' after

-- it is so of all clients
abbrev pub AllInTime : List NoteTimes → NoteNumbers → List NoteTimes → NoteNumbers → Type 0
AllInTime before numbers after numbers' = (slots : ℕ) × InTimeBelow slots before numbers after numbers'

abbrev pub AllTakeFirst : List NoteTimes → List NoteTimes → Type 0
AllTakeFirst before after = (slot : ℕ) → TakesFirst (times_at slot before) (times_at slot after)

-- no client has notes that wait
abbrev pub NoneWaits : List NoteTimes → Type 0
NoneWaits clients = (slot : ℕ) → (times_at slot clients).waiting ≡ []

-- ---- the places of the notes of all clients

-- A place is no later than another: those that were made come before those that wait, each by its number, and then by its slot.
abbrev pub IsNoLater : NotePlace → NotePlace → Type 0
IsNoLater a b =
    (IsTrue a.waits → IsTrue b.waits) × (a.waits ≡ b.waits → a.number ≤ b.number) × (a.waits ≡ b.waits → a.number ≡ b.number → a.slot ≤ b.slot)

-- the places are in order of time
abbrev pub Rise : List NotePlace → Type 0
Rise order = AllAdjacentBelow IsNoLater order (length order)

-- how many places belong to a slot
abbrev pub places_at : ℕ → List NotePlace → ℕ
places_at slot order = sum_by (λ p. if p.slot == slot then 1 else 0) order

-- the slot of the client of a note
abbrev pub slot_of : {U : Type 0} → Note U → ℕ
slot_of (Initialized client) = client.slot
slot_of (Disconnected client reason) = client.slot
slot_of (Destroyed client object u) = client.slot

-- the notes are in the order of the slots of their clients, from this slot on
abbrev pub RiseFromSlot : {U : Type 0} → ℕ → List (Note U) → Type 0
RiseFromSlot low [] = Unit {0}
RiseFromSlot low (n ∷ ns) = (low ≤ slot_of n) × RiseFromSlot (slot_of n) ns

-- those of all clients, from a slot on
abbrev pub all_places : Bool → ℕ → List NoteTimes → List NotePlace
all_places waits slot [] = []
all_places waits slot (t ∷ clients) = places_of waits slot t ++ all_places waits (slot + 1) clients

-- The places rise in time, and each note that is gathered has one, with its number.
pub record IsOrderOf {T U C : Type 0} (waits : Bool) (clients : List (Option (Stored T U C))) (order : List NotePlace) : Type 0 where
  pub rise : Rise order
  pub each : (slot : ℕ) → places_at slot order ≡ length (to_gather waits (stored_at slot clients))
  pub numbers : IsPermutation (all_places waits 0 (map times_of clients)) order

-- Notes were appended, of the clients of the slots of these places.
abbrev pub Along : {U : Type 0} → List (Note U) → List (Note U) → List NotePlace → Type 0
Along {U} notes notes' order = (more : List (Note U)) × (notes' ≡ notes ++ more) × (map slot_of more ≡ map (λ p. p.slot) order)

-- Notes of all clients were appended in the order of time. Which note of a client comes first is said in `Gathers`.
abbrev pub IsInOrder : {T U C : Type 0} → Bool → List (Option (Stored T U C)) → List (Note U) → List (Note U) → Type 0
IsInOrder waits clients notes notes' =
    (order : List NotePlace) × IsOrderOf waits clients order × Along notes notes' order
