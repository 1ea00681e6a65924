-- Who reads: what each call does to the number of threads that prepared, and to the turn.
use Rattle.std.specs.Prelude.{◌≡◌, ℕ, ◌≤◌, ◌+◌, ◌-◌, ◌==◌, ◌&&◌, ◌||◌, nat_le, not, Bool, false, if◌then◌else◌, Result, Ok, Err}
use Rattle.wl_queues.specs.declared.readers.Turn.{Turn}
use Rattle.wl_queues.specs.declared.readers.Turn.TheVariants.{Read, Wait}
use Rattle.wl_queues.specs.declared.readers.NotPrepared.{NotPrepared}

-- how many threads have prepared, whether one reads, and how many turns have ended
pub record ReadersState : Type 0 where
  pub prepared : ℕ
  pub is_reading : Bool
  pub ended : ℕ

abbrev pub no_readers : ReadersState
no_readers = record { prepared = 0; is_reading = false; ended = 0 }

-- the greatest number of turns
abbrev pub greatest : ℕ
greatest = 0xFFFFFFFFFFFFFFFF

-- how many turns have ended, if each thread that prepared or reads ends one
abbrev pub turns_of : ℕ → Bool → ℕ → ℕ
turns_of prepared is_reading ended = ended + prepared + (if is_reading then 1 else 0)

abbrev pub turns : ReadersState → ℕ
turns r = turns_of r.prepared r.is_reading r.ended

-- a thread may prepare but for that: no number is left for its turn
abbrev pub LacksTurn : Bool → ReadersState → Type 0
LacksTurn has_events r = (has_events ≡ false) × (greatest ≤ turns r)

-- of those that prepared it is the last, and none reads
abbrev pub is_last : ReadersState → Bool
is_last r = (r.prepared == 1) && not r.is_reading

abbrev pub prepared_by : Bool → ReadersState → ReadersState
prepared_by has_events r = if has_events || nat_le greatest (turns r) then r else record r { prepared = r.prepared + 1 }

-- what a thread that begins is told
abbrev pub turn_of : ReadersState → Result Turn NotPrepared
turn_of r = if r.prepared == 0 then Err _ else Ok (if is_last r then Read else Wait r.ended)

abbrev pub begun : ReadersState → ReadersState
begun r = if r.prepared == 0 then r else record r { prepared = r.prepared - 1; is_reading = is_last r || r.is_reading }

abbrev pub ended_by : ReadersState → ReadersState
ended_by r = if r.is_reading then record r { is_reading = false; ended = r.ended + 1 } else r

-- what a thread that cancels is told: whether the turn ends by that
abbrev pub cancel_of : ReadersState → Result Bool NotPrepared
cancel_of r = if r.prepared == 0 then Err _ else Ok (is_last r)

abbrev pub cancelled : ReadersState → ReadersState
cancelled r = if r.prepared == 0 then r else record r { prepared = r.prepared - 1; ended = if is_last r then r.ended + 1 else r.ended }
