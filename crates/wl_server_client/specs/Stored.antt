-- A client that a server stores, and the notes of it that stand with it.
use Rattle.std.specs.Prelude.{ℕ, List, []}
use Rattle.wl_server_client.specs.declared.notes.Happening.{Happening}
use Rattle.wl_server_client.specs.declared.notes.Happening.TheVariants as happened
use Rattle.wl_server_client.specs.declared.notes.Note.{Note}
use Rattle.wl_server_client.specs.declared.notes.Note.TheVariants.{Initialized, Disconnected, Destroyed}
use Rattle.wl_server_client.specs.Ids.{ClientParts}
use Rattle.wl_server_client.specs.Part.{Part}

-- The numbers in time of a client's notes, in order: of those that were made and not gathered yet, and of those that wait.
pub record NoteTimes : Type 0 where
  pub made : List ℕ
  pub waiting : List ℕ

-- a stored client: its serial, its part, the notes of it that were made and not gathered yet, in order, and the numbers in time
-- of its notes
pub record Stored (T U C : Type 0) : Type 0 where
  pub serial : ℕ
  pub part : Part T U C
  pub made : List (Happening U)
  pub times : NoteTimes

-- no numbers
abbrev pub no_times : NoteTimes
no_times = record { made = []; waiting = [] }

module _ {T U C : Type 0} where
  -- the client without the numbers in time of its notes
  abbrev pub untimed : Stored T U C → Stored T U C
  untimed s = record { serial = s.serial; part = s.part; made = s.made; times = no_times }

-- the note of what happened to a client
abbrev pub note_of : {U : Type 0} → ClientParts → Happening U → Note U
note_of id happened.Initialized = Initialized id
note_of id (happened.Disconnected reason) = Disconnected id reason
note_of id (happened.Destroyed object u) = Destroyed id object u
