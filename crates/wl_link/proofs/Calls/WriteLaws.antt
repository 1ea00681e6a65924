-- A write, and when it needs no growth and no flush.
use Rattle.std.specs.Prelude.{◌≡◌, ℕ, ◌<◌, ◌≤◌, List, [], Option, Some, None, true, false, Result, Ok, Err}
use Rattle.std.proofs.Common.{refl, inl, inr, arith}
use Rattle.std.proofs.lemmas.Bool.{le-leb, lt-leb}
use Rattle.wl_wire.specs.declared.argument.Token.{Token}
use Rattle.wl_wire.specs.declared.error.MessageWriteError.{MessageWriteError}
use Rattle.wl_wire.specs.declared.error.MessageWriteError.TheVariants as errors
use Rattle.wl_wire.specs.declared.error.IoFault.{IoFault}
use Rattle.wl_wire.specs.declared.error.IoFault.TheVariants as fault
use Rattle.wl_wire.specs.Message.{WireMessage, size}
use Rattle.wl_link.specs.Exchange.{Queue}
use Rattle.wl_link.specs.Inside.WaitingBytes.{Appended, Waiting, beside, waits, write_answer_of}
use Rattle.wl_link.specs.Link.{LinkState, Wants, Grows, Grown, Put, Placed, Wrote, WroteBy, Flushed, has_room, ignoring, needed}

not_wanted : (limit : Option ℕ) (needed size : ℕ) → needed ≤ size → ¬ (Wants limit needed size)
not_wanted None needed size le wants = omega arith
not_wanted (Some limit) needed size le wants = omega (arith, wants.0)

pub room_stays : (limit : Option ℕ) (needed size : ℕ) → needed ≤ size → Grows limit needed size size
room_stays limit needed size le = record {
  times = 0;
  grown = omega arith;
  wanted = λ k lt. absurd (omega arith);
  enough = not_wanted limit needed size le;
}

module _ {T : Type 0} (sends : T → Queue → Result ℕ IoFault → T → Type 0) (before after : LinkState T) (m : WireMessage)
    (answer : Result (Unit {0}) IoFault) where
  -- where the storage has room, nothing is sent
  pub wrote_by_none : size m ≤ 65535 → needed before (size m) ≤ before.outgoing_capacity → Put before m answer after
      → WroteBy sends before m [] answer after
  wrote_by_none small room put =
      rw (le-leb (size m) 65535 small)
      (inr (
        before,
        (room_stays before.limit (needed before (size m)) before.outgoing_capacity room, refl),
        rw (le-leb (needed before (size m)) before.outgoing_capacity room) (refl, put),
      ))

  pub wrote_at_once : size m ≤ 65535 → needed before (size m) ≤ before.outgoing_capacity → Put before m answer after → Wrote sends before m answer after
  wrote_at_once small room put = ([], wrote_by_none small room put)

  pub wrote_too_long : 65535 < size m → answer ≡ Err fault.TooBig → after ≡ before → Wrote sends before m answer after
  wrote_too_long long refused same = ([], rw (lt-leb (size m) 65535 long) (refl, refused, same))

  pub wrote_ungrown : size m ≤ 65535 → answer ≡ Err fault.OutOfMemory → after ≡ before → Wants before.limit (needed before (size m)) before.outgoing_capacity
      → Wrote sends before m answer after
  wrote_ungrown small refused same wants = ([], rw (le-leb (size m) 65535 small) (inl (refl, refused, same, wants)))

  pub wrote_placed : (grown : LinkState T) → size m ≤ 65535 → Grown before (size m) grown → Placed sends grown m answer after → Wrote sends before m answer after
  wrote_placed grown small grows placed = (placed.0, rw (le-leb (size m) 65535 small) (inr (grown, grows, placed.1)))

-- the link where what waits to be sent is this
abbrev pub with_waiting : {T : Type 0} → LinkState T → Waiting → List Token → LinkState T
with_waiting l waiting fds = record {
  transport = l.transport;
  incoming = l.incoming;
  incoming_capacity = l.incoming_capacity;
  outgoing = beside waiting.bytes fds;
  outgoing_capacity = waiting.size;
  limit = l.limit;
}

-- the answer to a message that was put behind what waits, or for which the storage's size is not the reason why not
pub wrote_answered : {T : Type 0} (sends : T → Queue → Result ℕ IoFault → T → Type 0) (before : LinkState T) (m : WireMessage)
    (written : Result (Unit {0}) MessageWriteError) (waiting : Waiting) (fds : List Token) → ¬ (written ≡ Err errors.BufferTooSmall)
    → Appended (waits before.outgoing.bytes before.outgoing_capacity) before.outgoing.tokens m written waiting fds
    → Wrote sends before m (write_answer_of written) (with_waiting before waiting fds)
wrote_answered sends before m (Ok u) waiting fds fits a =
    rw (a.2, a.3) (wrote_at_once sends before _ m (Ok u) a.0 a.1 (inl (refl, refl)))
wrote_answered sends before m (Err errors.TooLong) waiting fds fits a =
    rw (a.1, a.2) (wrote_too_long sends before _ m (Err fault.TooBig) a.0 refl refl)
wrote_answered sends before m (Err errors.BufferTooSmall) waiting fds fits a = absurd (fits refl)
wrote_answered sends before m (Err errors.OutOfMemory) waiting fds fits a =
    rw (a.3, a.4) (wrote_at_once sends before _ m (Err fault.OutOfMemory) a.0 a.1 (inr (refl, refl, a.2)))

module _ {T : Type 0} (sends : T → Queue → Result ℕ IoFault → T → Type 0) (before mid after : LinkState T) (m : WireMessage)
    (flushed : Result (Unit {0}) IoFault) (no_room : has_room before (size m) ≡ false) (flush : Flushed sends before flushed mid) where
  pub placed_failed : (fault : IoFault) → Err fault ≡ ignoring flushed → Placed sends before m (Err fault) mid
  placed_failed fault e = (flush.0, rw no_room (mid, flushed, flush.1, rw (← e) (refl, refl)))

  pub placed_after : (u : Unit {0}) (answer : Result (Unit {0}) IoFault) → Ok u ≡ ignoring flushed → has_room mid (size m) ≡ true → Put mid m answer after
      → Placed sends before m answer after
  placed_after u answer e room put = (flush.0, rw no_room (mid, flushed, flush.1, rw (← e, room) put))

  pub placed_full : (u : Unit {0}) → Ok u ≡ ignoring flushed → has_room mid (size m) ≡ false → Placed sends before m (Err fault.TooBig) mid
  placed_full u e full = (flush.0, rw no_room (mid, flushed, flush.1, rw (← e, full) (refl, refl)))
