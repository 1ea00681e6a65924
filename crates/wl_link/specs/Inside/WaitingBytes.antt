-- Bytes that wait in a buffer, as the functions inside the link say it.
use Rattle.std.specs.Prelude.{◌≡◌, ℕ, ◌+◌, ◌-◌, ◌*◌, ◌<◌, ◌≤◌, ◌&&◌, List, ◌++◌, length, nat_le, nat_lt, if◌then◌else◌, Option, Result, Ok, Err}
use Rattle.wl_wire.specs.declared.error.MessageWriteError.{MessageWriteError}
use Rattle.wl_wire.specs.declared.error.MessageWriteError.TheVariants as errors
use Rattle.wl_wire.specs.Message.{WireMessage, size, spelling, tokens as tokens_of}
use Rattle.wl_wire.specs.declared.argument.Token.{Token}
use Rattle.wl_wire.specs.declared.error.IoFault.{IoFault}
use Rattle.wl_wire.specs.declared.error.IoFault.TheVariants as fault
use Rattle.wl_link.specs.Exchange.{Queue}
use Rattle.wl_wire.specs.Parse.{length_of}
use Rattle.wl_link.specs.Link.{TokensAsk, count_of, incoming_limit, with_came}

-- the bytes, and how many the buffer can hold
pub record Waiting : Type 0 where
  pub bytes : List ℕ
  pub size : ℕ

abbrev pub waits : List ℕ → ℕ → Waiting
waits bytes size = record { bytes = bytes; size = size }

abbrev pub beside : List ℕ → List Token → Queue
beside bytes tokens = record { bytes = bytes; tokens = tokens }

-- the count of bytes that came or were written
abbrev pub arrived : {E : Type 0} → Result ℕ E → ℕ
arrived (Ok n) = n
arrived (Err _) = 0

-- One receive was offered the part of a buffer that is free after what waits, and what came stands after it.
abbrev pub Received : {T : Type 0} → (T → ℕ → Result Queue IoFault → T → Type 0)
    → T → Queue → ℕ → Result ℕ IoFault → T → Queue → Type 0
Received receives before waiting size answer after waiting' =
    (received : Result Queue IoFault)
    × receives before (size - length waiting.bytes) received after
    × (answer ≡ count_of received)
    × (waiting' ≡ with_came waiting received)

-- the capacity of the buffer that a receive finds, under a limit
abbrev pub grown_to : Option ℕ → Waiting → ℕ
grown_to limit w = if nat_le w.size (length w.bytes) && nat_lt w.size (incoming_limit limit) then w.size * 2 else w.size

-- no byte is free, and the buffer grows no more under the limit
abbrev pub IsFullUnder : Option ℕ → Waiting → Type 0
IsFullUnder limit w = (length w.bytes ≡ w.size) × (incoming_limit limit ≤ w.size)

-- the message at the front is no longer than the incoming buffer may become, under a limit
abbrev pub FitsUnder : Option ℕ → List ℕ → Type 0
FitsUnder limit bytes = 8 ≤ length bytes → length_of bytes ≤ incoming_limit limit

-- The message stands after what waits. An error changes nothing: the message is too long, or there is too little room
-- after what waits, or its tokens ask for memory and there is none.
abbrev pub Appended : {X : Type 0} → Waiting → List Token → WireMessage → Result X MessageWriteError → Waiting → List Token → Type 0
Appended before fds m (Ok _) after fds' =
    (size m ≤ 65535) × (length before.bytes + size m ≤ before.size)
    × (after ≡ waits (before.bytes ++ spelling m) before.size) × (fds' ≡ fds ++ tokens_of m.args)
Appended before fds m (Err errors.TooLong) after fds' = (65535 < size m) × (after ≡ before) × (fds' ≡ fds)
Appended before fds m (Err errors.BufferTooSmall) after fds' = (size m ≤ 65535) × (after ≡ before) × (fds' ≡ fds)
Appended before fds m (Err errors.OutOfMemory) after fds' =
    (size m ≤ 65535) × (length before.bytes + size m ≤ before.size)
    × TokensAsk fds m × (after ≡ before) × (fds' ≡ fds)

-- the link's answer to a write
abbrev pub write_answer_of : Result (Unit {0}) MessageWriteError → Result (Unit {0}) IoFault
write_answer_of (Ok u) = Ok u
write_answer_of (Err errors.TooLong) = Err fault.TooBig
write_answer_of (Err errors.BufferTooSmall) = Err fault.TooBig
write_answer_of (Err errors.OutOfMemory) = Err fault.OutOfMemory
