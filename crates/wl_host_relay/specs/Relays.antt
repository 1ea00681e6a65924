-- A relay as a host drives it: what each call does, in the words of `wl_relay`, and with which status it refuses.
use Rattle.std.specs.Prelude.{◌≡◌, ◌≢◌, ◌⊎◌, ℕ, ℤ, ◌==◌, List, [], ◌∷◌, length, nat_lt, if◌then◌else◌, Option, None, Some}
use Rattle.wl_wire.specs.Table.{InterfaceRow}
use Rattle.wl_follow.specs.declared.side.Side.{Side}
use Rattle.wl_relay.specs.declared.mode.Mode.{Mode}
use Rattle.wl_relay.specs.declared.mode.Mode.TheVariants.{HandOn, Log}
use Rattle.wl_relay.specs.declared.relay.ArriveError.{ArriveError}
use Rattle.wl_relay.specs.declared.relay.ArriveError.TheVariants as arrive
use Rattle.wl_relay.specs.Flow.{KeepsAll, MakesReady, RelayState, Sent, made_ready, to_send}
use Rattle.wl_relay.specs.Program.{IsNewRelay, IsTooMany, Takes}
use Rattle.wl_flat.specs.declared.flat.Counts.{Counts}
use Rattle.wl_flat.specs.declared.rows.Rows.{Rows}
use Rattle.wl_flat.specs.declared.status.Status.{Status}
use Rattle.wl_flat.specs.declared.status.Status.TheVariants as status
use Rattle.wl_flat.specs.Flat.{over_front}
use Rattle.wl_flat.specs.Sending.{Copied}
use Rattle.wl_flat.specs.Guards.{came, copied_out, side_of}
use Rattle.wl_flat.specs.Tables.{IsTableOf}
use Rattle.wl_host_relay.specs.declared.relay.Relay.{Relay}

-- ---- a new relay

-- 0: it hands on; another number: it changes nothing
abbrev pub mode_of : ℕ → Mode
mode_of log_only = if log_only == 0 then HandOn else Log

abbrev pub IsNewOver : List InterfaceRow → Mode → Relay → Type 0
IsNewOver table mode r = IsNewRelay mode table r.core

-- of a session that begins, over the table of the rows
abbrev pub IsRelayOf : Rows → Mode → Relay → Type 0
IsRelayOf rows mode r = (table : List InterfaceRow) × IsTableOf rows table × IsNewOver table mode r

-- ---- what came

abbrev pub of_arrival : ArriveError → Status
of_arrival arrive.TooManyTokens = status.TooManyDescriptors
of_arrival arrive.OutOfMemory = status.OutOfMemory

-- This came from the side of this number, and what is whole of it was read; or it was not taken, and nothing is changed. Nothing is said
-- of a relay that had no memory.
abbrev pub Receives : ℕ → List ℕ → List ℤ → RelayState → Status → RelayState → Type 0
Receives n bytes descriptors before status.Ok after =
    (side : Side) × (side_of n ≡ Some side) × Takes side (came bytes descriptors) before after × ¬ (IsTooMany before side (came bytes descriptors))
Receives n bytes descriptors before status.InvalidInput after = (after ≡ before) × (side_of n ≡ None)
Receives n bytes descriptors before status.TooManyDescriptors after =
    (after ≡ before) × ((side : Side) × (side_of n ≡ Some side) × IsTooMany before side (came bytes descriptors))
Receives n bytes descriptors before status.OutOfMemory after = (side : Side) × (side_of n ≡ Some side)
Receives n bytes descriptors before _ after = ⊥

-- ---- what is to be sent

-- What is to be sent to the side next was made ready, and copied; or there was no memory, and nothing is lost or written.
abbrev pub CopiesTo : Side → RelayState → List ℕ → List ℤ → Counts → Copied → RelayState → Type 0
CopiesTo side before bytes descriptors counts c after =
    (MakesReady side before after × (c ≡ copied_out (made_ready side after) bytes descriptors))
    ⊎ (KeepsAll side before after × ((to_send side before).bytes ≢ [])
    × (c ≡ record { status = status.OutOfMemory; bytes = bytes; descriptors = descriptors; counts = counts }))

-- to the side of a number; there may be none
abbrev pub CopiesFor : Option Side → RelayState → List ℕ → List ℤ → Counts → Copied → RelayState → Type 0
CopiesFor None before bytes descriptors counts c after =
    (after ≡ before) × (c ≡ record { status = status.InvalidInput; bytes = bytes; descriptors = descriptors; counts = counts })
CopiesFor (Some side) before bytes descriptors counts c after = CopiesTo side before bytes descriptors counts c after

abbrev pub Copies : ℕ → RelayState → List ℕ → List ℤ → Counts → Copied → RelayState → Type 0
Copies n before bytes descriptors counts c after = CopiesFor (side_of n) before bytes descriptors counts c after

-- so many bytes of what was made ready were sent to the side; or there is no such side
abbrev pub Sends : ℕ → ℕ → RelayState → Status → RelayState → Type 0
Sends n count before status.Ok after = (side : Side) × (side_of n ≡ Some side) × Sent side count before after
Sends n count before status.InvalidInput after = (side_of n ≡ None) × (after ≡ before)
Sends n count before _ after = ⊥

-- ---- the log

-- what a call for a line answered, and what is in the lent memory and in the size after it
pub record Line : Type 0 where
  pub status : Status
  pub text : List ℕ
  pub size : ℕ

-- The first line, and how many bytes it has; only that if there is less room; and nothing if there is no line.
abbrev pub line_of : List (List ℕ) → List ℕ → ℕ → Line
line_of [] text size = record { status = status.WouldBlock; text = text; size = size }
line_of (line ∷ rest) text size =
    if nat_lt (length text) (length line)
    then (record { status = status.TooSmall; text = text; size = length line })
    else (record { status = status.Ok; text = over_front line text; size = length line })

-- the lines without the first, if there is room for it
abbrev pub left_of : List (List ℕ) → List ℕ → List (List ℕ)
left_of [] text = []
left_of (line ∷ rest) text = if nat_lt (length text) (length line) then line ∷ rest else rest

-- the first line of the log was told, if there was one, and is taken out if there was room for it; nothing else is changed
abbrev pub TellsLine : RelayState → List ℕ → ℕ → Line → RelayState → Type 0
TellsLine before text size told after =
    (told ≡ line_of before.known.log text size)
    × (after ≡ record before { known = record before.known { log = left_of before.known.log text } })
