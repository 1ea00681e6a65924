-- Threads that share the readers, in every order of their calls.
use Rattle.std.specs.Prelude.{◌≡◌, ◌⊎◌, ℕ, ◌<◌, ◌≤◌, ◌==◌, ◌||◌, nat_le, nat_lt, Bool, true, false, if◌then◌else◌, List, [], ◌∷◌, length, get_or, slice_set, replicate, Result, Ok, Err}
use Rattle.std.specs.List.{count_by}
use Rattle.wl_queues.specs.declared.readers.Turn.{Turn}
use Rattle.wl_queues.specs.declared.readers.Turn.TheVariants.{Read, Wait}
use Rattle.wl_queues.specs.declared.readers.NotPrepared.{NotPrepared}
use Rattle.wl_queues.specs.Readers.{ReadersState, begun, cancelled, ended_by, greatest, no_readers, prepared_by, turn_of, turns}

-- where a thread is: it has nothing to do with reading, it has prepared, it reads, or it waits until another number of turns has
-- ended
pub data Place : Type 0 where
  Elsewhere : Place
  Prepared : Place
  Reading : Place
  Waiting : (ended : ℕ) → Place

-- what a thread does next: it prepares while events wait in its queue or none does, it begins, it ends its reading, it cancels, or
-- it looks whether it may go on
pub data Act : Type 0 where
  Prepares : (has_events : Bool) → Act
  Begins : Act
  Ends : Act
  Cancels : Act
  Looks : Act

pub record Step : Type 0 where
  pub thread : ℕ
  pub act : Act

-- the readers, and all threads
pub record World : Type 0 where
  pub readers : ReadersState
  pub threads : List Place

abbrev pub place_of : World → ℕ → Place
place_of w thread = get_or w.threads thread Elsewhere

-- the thread goes to another place, and the readers are these
abbrev pub moved : World → ℕ → Place → ReadersState → World
moved w thread place readers = record { readers = readers; threads = slice_set w.threads thread place }

-- where a thread goes that begins
abbrev pub place_by : Result Turn NotPrepared → Place
place_by (Err _) = Prepared
place_by (Ok Read) = Reading
place_by (Ok (Wait ended)) = Waiting ended

-- A thread that is at this place does this. Where that is not for it to do, nothing happens.
abbrev pub acted : World → ℕ → Place → Act → World
acted w thread Elsewhere (Prepares has_events) =
    if has_events || nat_le greatest (turns w.readers) then w else moved w thread Prepared (prepared_by has_events w.readers)
acted w thread Prepared Begins = moved w thread (place_by (turn_of w.readers)) (begun w.readers)
acted w thread Prepared Cancels = moved w thread Elsewhere (cancelled w.readers)
acted w thread Reading Ends = moved w thread Elsewhere (ended_by w.readers)
acted w thread (Waiting ended) Looks = if w.readers.ended == ended then w else moved w thread Elsewhere w.readers
acted w thread _ _ = w

-- a step of a thread that is not there is none
abbrev pub stepped : World → Step → World
stepped w s = if nat_lt s.thread (length w.threads) then acted w s.thread (place_of w s.thread) s.act else w

-- a whole schedule
abbrev pub run : World → List Step → World
run w [] = w
run w (s ∷ steps) = run (stepped w s) steps

-- so many threads, none of which has prepared
abbrev pub begins_with : ℕ → World
begins_with threads = record { readers = no_readers; threads = replicate threads Elsewhere }

abbrev pub reads : Place → Bool
reads Elsewhere = false
reads Prepared = false
reads Reading = true
reads (Waiting ended) = false

abbrev pub is_prepared : Place → Bool
is_prepared Elsewhere = false
is_prepared Prepared = true
is_prepared Reading = false
is_prepared (Waiting ended) = false

-- it has prepared or reads: a call of it is still to come
abbrev pub takes_part : Place → Bool
takes_part place = is_prepared place || reads place

abbrev pub AtMostOneReads : Type 0
AtMostOneReads = (threads : ℕ) (steps : List Step) → count_by reads (run (begins_with threads) steps).threads ≤ 1

-- The thread may go on; or it waits for the turn that goes on, and another thread takes part in that.
abbrev pub IsAwaited : World → ℕ → Type 0
IsAwaited w ended = (ended < w.readers.ended) ⊎ ((ended ≡ w.readers.ended) × (0 < count_by takes_part w.threads))

abbrev pub NoneIsLeftWaiting : Type 0
NoneIsLeftWaiting =
    (threads : ℕ) (steps : List Step) (thread ended : ℕ) →
    place_of (run (begins_with threads) steps) thread ≡ Waiting ended → IsAwaited (run (begins_with threads) steps) ended
