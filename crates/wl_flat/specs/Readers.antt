-- Readers as a struct of the host's, and what each call answers and leaves.
use Rattle.std.specs.Prelude.{ℕ, nat_le, nat_lt, Bool, if◌then◌else◌, Result, Ok, Err}
use Rattle.wl_queues.specs.declared.readers.Turn.{Turn}
use Rattle.wl_queues.specs.declared.readers.Turn.TheVariants.{Read, Wait}
use Rattle.wl_queues.specs.declared.readers.NotPrepared.{NotPrepared}
use Rattle.wl_queues.specs.Readers.{ReadersState, cancel_of, greatest, turn_of, turns}
use Rattle.wl_flat.specs.declared.readers.FlatReaders.{FlatReaders}
use Rattle.wl_flat.specs.declared.readers.FlatTurn.{FlatTurn}
use Rattle.wl_flat.specs.declared.status.Status.{Status}
use Rattle.wl_flat.specs.declared.status.Status.TheVariants as status
use Rattle.wl_flat.specs.Nulls.{sets}

-- what the struct says: any number but 0 is a yes
abbrev pub readers_of : FlatReaders → ReadersState
readers_of r = record { prepared = r.prepared; is_reading = sets r.is_reading; ended = r.ended }

abbrev pub flat_readers : ReadersState → FlatReaders
flat_readers s = record { prepared = s.prepared; ended = s.ended; is_reading = if s.is_reading then 1 else 0 }

-- The answer of a call. There are no readers whose turns pass the greatest number, so such a struct is refused.
abbrev pub answer_of : {A : Type 0} → (ReadersState → Result A Status) → FlatReaders → Result A Status
answer_of call r = if nat_lt greatest (turns (readers_of r)) then Err status.InvalidInput else call (readers_of r)

-- the struct after a call: as it was if that was refused
abbrev pub readers_after : {A : Type 0} → Result A Status → (ReadersState → ReadersState) → FlatReaders → FlatReaders
readers_after (Ok x) change r = flat_readers (change (readers_of r))
readers_after (Err s) change r = r

-- the readers themselves
abbrev pub readers_in : FlatReaders → Result ReadersState Status
readers_in r = answer_of (λ s. Ok s) r

-- ---- what each call answers

abbrev pub prepare_answer : Bool → ReadersState → Result (Unit {0}) Status
prepare_answer has_events s =
    if has_events then Err status.EventsWait else (if nat_le greatest (turns s) then Err status.SerialsExhausted else Ok tt)

abbrev pub flat_turn : Turn → FlatTurn
flat_turn Read = record { ended = 0; reads = 1 }
flat_turn (Wait ended) = record { ended = ended; reads = 0 }

-- an answer of which some part is told
abbrev pub told_of : {A B : Type 0} → (A → B) → Result A NotPrepared → Result B Status
told_of part (Ok x) = Ok (part x)
told_of part (Err e) = Err status.NotPrepared

abbrev pub begin_answer : ReadersState → Result FlatTurn Status
begin_answer s = told_of flat_turn (turn_of s)

abbrev pub end_answer : ReadersState → Result (Unit {0}) Status
end_answer s = if s.is_reading then Ok tt else Err status.NotReading

abbrev pub cancel_answer : ReadersState → Result Bool Status
cancel_answer s = told_of (λ ends. ends) (cancel_of s)

abbrev pub ended_answer : ReadersState → Result ℕ Status
ended_answer s = Ok s.ended
