-- What a link holds, and what each of its calls does to it.
--
-- The sends of a call are a list, which the transport's relation chains from its value before the call to its value
-- after. Each relation comes with its sends as an argument (`FlushedBy`, `WroteBy`) and with them hidden (`Flushed`,
-- `Wrote`).
use Rattle.std.specs.Prelude.{◌≡◌, ◌≢◌, ℕ, zero, suc, ◌+◌, ◌-◌, ◌*◌, ◌^◌, ◌<◌, ◌≤◌, ◌⊎◌, List, [], ◌∷◌, length, take, drop, min, Bool, ◌&&◌, nat_le, nat_lt, ◌==◌, Option, Some, None, Result, Ok, Err, MatchBool, MatchResult, if◌then◌else◌}
use Rattle.std.specs.Int.{IsPowerOfTwo}
use Rattle.std.specs.Option.{option_copied}
use Rattle.std.specs.Borrow.{Bor}
use Rattle.wl_wire.specs.declared.argument.Argument.TheVariants as arg
use Rattle.wl_wire.specs.declared.argument.ArgumentType.{ArgumentType}
use Rattle.wl_wire.specs.declared.argument.Token.{Token}
use Rattle.wl_wire.specs.declared.error.IoFault.{IoFault}
use Rattle.wl_wire.specs.declared.error.IoFault.TheVariants as fault
use Rattle.wl_wire.specs.declared.error.MessageParseError.{MessageParseError}
use Rattle.wl_wire.specs.declared.error.MessageParseError.TheVariants as errors
use Rattle.wl_wire.specs.declared.message.Message.{Message}
use Rattle.wl_wire.specs.Message.{WireMessage, content, size, spelling, tokens}
use Rattle.wl_wire.specs.Parse.{IsWhole, length_of, sender_of, opcode_of, fd_count, IsInline, ReadsMessage, RefusesMessage}
use Rattle.wl_link.specs.declared.number_message.NumberMessage.{NumberMessage}
use Rattle.wl_link.specs.Exchange.{Queue, Sending, Chain, joined, nothing}

-- what contracts see of a link
pub record LinkState (T : Type 0) : Type 0 where
  pub transport : T
  -- received and not read yet, and how many bytes the incoming buffer can hold
  pub incoming : Queue
  pub incoming_capacity : ℕ
  -- written and not sent yet, how many bytes the outgoing buffer can hold, and how far that may grow
  pub outgoing : Queue
  pub outgoing_capacity : ℕ
  pub limit : Option ℕ

abbrev pub with_transport : {T : Type 0} → LinkState T → T → LinkState T
with_transport l transport = record {
  transport = transport;
  incoming = l.incoming;
  incoming_capacity = l.incoming_capacity;
  outgoing = l.outgoing;
  outgoing_capacity = l.outgoing_capacity;
  limit = l.limit;
}

abbrev pub with_outgoing : {T : Type 0} → LinkState T → T → Queue → LinkState T
with_outgoing l transport outgoing = record {
  transport = transport;
  incoming = l.incoming;
  incoming_capacity = l.incoming_capacity;
  outgoing = outgoing;
  outgoing_capacity = l.outgoing_capacity;
  limit = l.limit;
}

abbrev pub with_outgoing_capacity : {T : Type 0} → LinkState T → ℕ → LinkState T
with_outgoing_capacity l capacity = record {
  transport = l.transport;
  incoming = l.incoming;
  incoming_capacity = l.incoming_capacity;
  outgoing = l.outgoing;
  outgoing_capacity = capacity;
  limit = l.limit;
}

abbrev pub with_incoming : {T : Type 0} → LinkState T → T → Queue → LinkState T
with_incoming l transport incoming = record {
  transport = transport;
  incoming = incoming;
  incoming_capacity = l.incoming_capacity;
  outgoing = l.outgoing;
  outgoing_capacity = l.outgoing_capacity;
  limit = l.limit;
}

abbrev pub with_incoming_capacity : {T : Type 0} → LinkState T → ℕ → LinkState T
with_incoming_capacity l room = record {
  transport = l.transport;
  incoming = l.incoming;
  incoming_capacity = room;
  outgoing = l.outgoing;
  outgoing_capacity = l.outgoing_capacity;
  limit = l.limit;
}

-- ---- limits

-- A limit that is asked for becomes the least power of two that is not below it and not below 4096. One above the
-- greatest power of two becomes the greatest number.
abbrev pub IsLimit : ℕ → ℕ → Type 0
IsLimit asked limit =
    (asked ≤ 2 ^ 63 → IsPowerOfTwo limit × (asked ≤ limit) × (4096 ≤ limit)
    × ((p : ℕ) → IsPowerOfTwo p → asked ≤ p → 4096 ≤ p → limit ≤ p))
    × (2 ^ 63 < asked → limit ≡ 2 ^ 64 - 1)

-- no limit stays no limit
abbrev pub AreLimits : Option ℕ → Option ℕ → Type 0
AreLimits None limit = limit ≡ None
AreLimits (Some asked) limit = (n : ℕ) × (limit ≡ Some n) × IsLimit asked n

-- a link on which nothing waits
abbrev pub IsFresh : {T : Type 0} → T → Option ℕ → LinkState T → Type 0
IsFresh transport asked l =
    (limit : Option ℕ) × AreLimits asked limit
    × (l ≡ record { transport = transport; incoming = nothing; incoming_capacity = 4096; outgoing = nothing; outgoing_capacity = 4096; limit = limit })

-- the limit is another one, and all else is as it was
abbrev pub LimitSet : {T : Type 0} → LinkState T → Option ℕ → LinkState T → Type 0
LimitSet before asked after =
    (limit : Option ℕ) × AreLimits asked limit
    × (after ≡ record {
      transport = before.transport;
      incoming = before.incoming;
      incoming_capacity = before.incoming_capacity;
      outgoing = before.outgoing;
      outgoing_capacity = before.outgoing_capacity;
      limit = limit;
    })

-- ---- a flush

-- If more than 28 tokens wait, one byte is offered, and else up to 4096; of the tokens up to 28.
abbrev pub offer_size : List Token → ℕ
offer_size tokens = if nat_le (length tokens) 28 then 4096 else 1

-- what a send is offered of what waits
abbrev pub offer_of : Queue → Queue
offer_of q = record { bytes = take (offer_size q.tokens) q.bytes; tokens = take 28 q.tokens }

-- what is left after n bytes were taken, and the tokens that were offered are gone
abbrev pub left_of : ℕ → Queue → Queue
left_of n q = record { bytes = drop n q.bytes; tokens = drop 28 q.tokens }

-- a fault ends the flush and changes nothing, an answer 0 ends it and drops the tokens, and another count goes on
abbrev pub AfterSend : Result ℕ IoFault → Type 0 → Type 0 → Type 0 → Result (Unit {0}) IoFault → (ℕ → Type 0) → Type 0
AfterSend (Err fault) last same dropped answer on = last × same × (answer ≡ Err fault)
AfterSend (Ok n) last same dropped answer on = MatchBool (n == 0) (last × dropped × (answer ≡ Ok tt)) (on n)

-- A flush of the queue makes these sends, gives this answer, and leaves the queue `after`. While bytes wait, the front of
-- what is left is offered.
abbrev pub Flushes : Queue → List Sending → Result (Unit {0}) IoFault → Queue → Type 0
Flushes q [] answer after = (q.bytes ≡ []) × (after ≡ q) × (answer ≡ Ok tt)
Flushes q (e ∷ es) answer after =
    (q.bytes ≢ []) × (e.offer ≡ offer_of q)
    × AfterSend e.answer (es ≡ []) (after ≡ q) (after ≡ left_of 0 q) answer (λ n. Flushes (left_of n q) es answer after)

-- a flush of the link with these sends
abbrev pub FlushedBy : {T : Type 0} → (T → Queue → Result ℕ IoFault → T → Type 0)
    → LinkState T → List Sending → Result (Unit {0}) IoFault → LinkState T → Type 0
FlushedBy sends before es answer after =
    Chain sends before.transport es after.transport × Flushes before.outgoing es answer after.outgoing
    × (after ≡ with_outgoing before after.transport after.outgoing)

abbrev pub Flushed : {T : Type 0} → (T → Queue → Result ℕ IoFault → T → Type 0)
    → LinkState T → Result (Unit {0}) IoFault → LinkState T → Type 0
Flushed sends before answer after = (es : List Sending) × FlushedBy sends before es answer after

-- ---- a write

-- a message's bytes, and its tokens
abbrev pub spelled : WireMessage → Queue
spelled m = record { bytes = spelling m; tokens = tokens m.args }

-- the message with one number as a message
abbrev pub number_message : NumberMessage → WireMessage
number_message m = record { sender = m.sender_id; opcode = m.opcode; args = arg.Uint m.number ∷ [] }

-- a buffer of that size has too little room, and may be doubled
abbrev pub Wants : Option ℕ → ℕ → ℕ → Type 0
Wants None needed size = size < needed
Wants (Some limit) needed size = (size < needed) × (size < limit)

-- The buffer is doubled again and again, as long as it has too little room and may be doubled: to the least size that has
-- room, or else to the greatest that the limit allows.
pub record Grows (limit : Option ℕ) (needed size size' : ℕ) : Type 0 where
  pub times : ℕ
  pub grown : size' ≡ size * 2 ^ times
  pub wanted : (k : ℕ) → k < times → Wants limit needed (size * 2 ^ k)
  pub enough : ¬ (Wants limit needed size')

-- how many bytes are needed for what waits and `more` bytes
abbrev pub needed : {T : Type 0} → LinkState T → ℕ → ℕ
needed l more = length l.outgoing.bytes + more

-- the outgoing buffer has grown, as far as it may, to have room for `more` bytes
abbrev pub Grown : {T : Type 0} → LinkState T → ℕ → LinkState T → Type 0
Grown before more after =
    Grows before.limit (needed before more) before.outgoing_capacity after.outgoing_capacity × (after ≡ with_outgoing_capacity before after.outgoing_capacity)

-- the message's tokens ask for memory: it has some, and behind those that wait they would be more than 28
abbrev pub TokensAsk : List Token → WireMessage → Type 0
TokensAsk waiting m = (tokens m.args ≢ []) × (28 < length waiting + length (tokens m.args))

-- the message stands after what waits; or its tokens ask for memory, there is none, and nothing is changed
abbrev pub Put : {T : Type 0} → LinkState T → WireMessage → Result (Unit {0}) IoFault → LinkState T → Type 0
Put before m answer after =
    ((answer ≡ Ok tt) × (after ≡ with_outgoing before before.transport (joined before.outgoing (spelled m))))
    ⊎ ((answer ≡ Err fault.OutOfMemory) × (after ≡ before) × TokensAsk before.outgoing.tokens m)

abbrev pub has_room : {T : Type 0} → LinkState T → ℕ → Bool
has_room l more = nat_le (needed l more) l.outgoing_capacity

-- a flush in a write counts as done if the transport would block
abbrev pub ignoring : Result (Unit {0}) IoFault → Result (Unit {0}) IoFault
ignoring (Ok u) = Ok u
ignoring (Err fault.WouldBlock) = Ok tt
ignoring (Err other) = Err other

-- the message is put if there is room; else a flush is made, and it is put if there is room then
abbrev pub PlacedBy : {T : Type 0} → (T → Queue → Result ℕ IoFault → T → Type 0)
    → LinkState T → WireMessage → List Sending → Result (Unit {0}) IoFault → LinkState T → Type 0
PlacedBy {T = T} sends before m es answer after =
    MatchBool (has_room before (size m)) ((es ≡ []) × Put before m answer after)
    ((mid : LinkState T) × (flushed : Result (Unit {0}) IoFault) × FlushedBy sends before es flushed mid
    × MatchResult (ignoring flushed)
    (λ _. MatchBool (has_room mid (size m)) (Put mid m answer after) ((answer ≡ Err fault.TooBig) × (after ≡ mid)))
    (λ fault. (answer ≡ Err fault) × (after ≡ mid)))

abbrev pub Placed : {T : Type 0} → (T → Queue → Result ℕ IoFault → T → Type 0)
    → LinkState T → WireMessage → Result (Unit {0}) IoFault → LinkState T → Type 0
Placed sends before m answer after = (es : List Sending) × PlacedBy sends before m es answer after

-- A message above 65535 bytes is too big. Otherwise the buffer grows if it has to, for which there may be no memory, and
-- the message is put.
abbrev pub WroteBy : {T : Type 0} → (T → Queue → Result ℕ IoFault → T → Type 0)
    → LinkState T → WireMessage → List Sending → Result (Unit {0}) IoFault → LinkState T → Type 0
WroteBy {T = T} sends before m es answer after =
    MatchBool (nat_le (size m) 65535)
    (((es ≡ []) × (answer ≡ Err fault.OutOfMemory) × (after ≡ before)
    × Wants before.limit (needed before (size m)) before.outgoing_capacity)
    ⊎ ((grown : LinkState T) × Grown before (size m) grown × PlacedBy sends grown m es answer after))
    ((es ≡ []) × (answer ≡ Err fault.TooBig) × (after ≡ before))

abbrev pub Wrote : {T : Type 0} → (T → Queue → Result ℕ IoFault → T → Type 0)
    → LinkState T → WireMessage → Result (Unit {0}) IoFault → LinkState T → Type 0
Wrote sends before m answer after = (es : List Sending) × WroteBy sends before m es answer after

-- ---- a fill

-- a receive of no bytes is the end of the stream
abbrev pub counted_answer : Result ℕ IoFault → Result (Unit {0}) IoFault
counted_answer (Ok n) = if n == 0 then Err fault.Pipe else Ok tt
counted_answer (Err fault) = Err fault

-- the count that a receive of this answers
abbrev pub count_of : Result Queue IoFault → Result ℕ IoFault
count_of (Ok came) = Ok (length came.bytes)
count_of (Err fault) = Err fault

-- what came stands after what waits; tokens do so even if no bytes came
abbrev pub with_came : Queue → Result Queue IoFault → Queue
with_came q (Ok came) = joined q came
with_came q (Err fault) = q

-- how far the incoming buffer may grow under a limit
abbrev pub incoming_limit : Option ℕ → ℕ
incoming_limit None = 65536
incoming_limit (Some limit) = min limit 65536

-- the capacity of the buffer that a receive finds: it is doubled if no byte is free and it may still grow
abbrev pub grown_capacity : {T : Type 0} → LinkState T → ℕ
grown_capacity l = if nat_le l.incoming_capacity (length l.incoming.bytes) && nat_lt l.incoming_capacity (incoming_limit l.limit) then l.incoming_capacity * 2 else l.incoming_capacity

-- how many bytes of it are free
abbrev pub free_room : {T : Type 0} → LinkState T → ℕ
free_room l = grown_capacity l - length l.incoming.bytes

-- the buffer has no byte free, and grows no more
abbrev pub IsFull : {T : Type 0} → LinkState T → Type 0
IsFull l = (length l.incoming.bytes ≡ l.incoming_capacity) × (incoming_limit l.limit ≤ l.incoming_capacity)

-- One receive is offered the free part of the buffer, which may have been doubled first, and gives this.
abbrev pub FilledBy : {T : Type 0} → (T → ℕ → Result Queue IoFault → T → Type 0)
    → LinkState T → Result Queue IoFault → Result (Unit {0}) IoFault → LinkState T → Type 0
FilledBy receives before received answer after =
    receives before.transport (free_room before) received after.transport
    × (answer ≡ counted_answer (count_of received))
    × (after ≡ with_incoming (with_incoming_capacity before (grown_capacity before)) after.transport (with_came before.incoming received))

-- a receive asks for memory: the buffer is to grow, or more than 28 tokens wait
abbrev pub ReceiveAsks : {T : Type 0} → LinkState T → Type 0
ReceiveAsks l = (l.incoming_capacity < grown_capacity l) ⊎ (28 < length l.incoming.tokens)

-- or the receive asked for memory, there was none, and nothing was received
abbrev pub Filled : {T : Type 0} → (T → ℕ → Result Queue IoFault → T → Type 0)
    → LinkState T → Result (Unit {0}) IoFault → LinkState T → Type 0
Filled receives before answer after =
    ((received : Result Queue IoFault) × FilledBy receives before received answer after)
    ⊎ ((answer ≡ Err fault.OutOfMemory) × (after ≡ before) × ReceiveAsks before)

-- the message at the front is not there to its last byte
abbrev pub LacksBytes : List ℕ → Type 0
LacksBytes bytes = (length bytes < 8) ⊎ (length bytes < length_of bytes)

-- the message at the front is no longer than the incoming buffer may become
abbrev pub FrontFits : {T : Type 0} → LinkState T → Type 0
FrontFits l = 8 ≤ length l.incoming.bytes → length_of l.incoming.bytes ≤ incoming_limit l.limit

-- a buffer of that size has a byte free, if the message at the front lacks bytes and is no longer than it may become
abbrev pub FindsRoom : {T : Type 0} → LinkState T → ℕ → Type 0
FindsRoom l room = LacksBytes l.incoming.bytes → FrontFits l → length l.incoming.bytes < room

-- what is left after n whole messages
abbrev pub IsAfter : ℕ → List ℕ → List ℕ → Type 0
IsAfter zero bytes rest = rest ≡ bytes
IsAfter (suc n) bytes rest = IsWhole bytes × IsAfter n (drop (length_of bytes) bytes) rest

-- each message has at most so many bytes; this holds also of one that is not there to its end
abbrev pub EachWithin : ℕ → List ℕ → Type 0
EachWithin most bytes = (n : ℕ) (rest : List ℕ) → IsAfter n bytes rest → 8 ≤ length rest → length_of rest ≤ most

-- ---- a read

-- the queue without the message at the front, and without so many tokens
abbrev pub without_front : ℕ → Queue → Queue
without_front count q = record { bytes = drop (length_of q.bytes) q.bytes; tokens = drop count q.tokens }

-- what is left after the message at the front was read under this signature
abbrev pub after_first : List ArgumentType → Queue → Queue
after_first signature q = without_front (fd_count signature) q

-- the answer under this signature; memory is refused only if the message may need some
abbrev pub ReadUnder : {T : Type 0} → List ArgumentType → LinkState T → Result WireMessage MessageParseError → LinkState T → Type 0
ReadUnder signature before (Ok m) after =
    ReadsMessage before.incoming.bytes signature before.incoming.tokens m
    × (after ≡ with_incoming before before.transport (after_first signature before.incoming))
ReadUnder signature before (Err e) after =
    RefusesMessage before.incoming.bytes signature before.incoming.tokens e
    × (IsInline signature → e ≢ errors.OutOfMemory) × (after ≡ before)

-- without a signature the message is malformed
abbrev pub ReadFound : {T : Type 0} → Option (List ArgumentType) → LinkState T → Result WireMessage MessageParseError → LinkState T → Type 0
ReadFound None before answer after = (answer ≡ Err errors.Malformed) × (after ≡ before)
ReadFound (Some signature) before answer after = ReadUnder signature before answer after

-- If the header is not there to its end, the answer is `MissingData`. Otherwise it is that of a parser, under the
-- signature that the look-up has for the message's sender and opcode. No error changes anything.
abbrev pub ReadOne : {T : Type 0} → (ℕ → ℕ → Option (List ArgumentType) → Type 0)
    → LinkState T → Result WireMessage MessageParseError → LinkState T → Type 0
ReadOne looks_up before answer after =
    MatchBool (nat_le 8 (length before.incoming.bytes))
    ((found : Option (List ArgumentType))
    × looks_up (sender_of before.incoming.bytes) (opcode_of before.incoming.bytes) found × ReadFound found before answer after)
    ((answer ≡ Err errors.MissingData) × (after ≡ before))

-- the answer of a read, with the message as contracts see it
abbrev pub read_content : Result (Message ℕ Token) MessageParseError → Result WireMessage MessageParseError
read_content (Ok message) = Ok (content message)
read_content (Err e) = Err e

-- the same for a read into a message that the caller lends
abbrev pub read_into : Result (Unit {0}) MessageParseError → Message ℕ Token → Result WireMessage MessageParseError
read_into (Ok _) message = Ok (content message)
read_into (Err e) message = Err e

-- a look-up that answers by reference
abbrev pub looked_up : (ℕ → ℕ → Option (Bor (List ArgumentType)) → Type 0) → ℕ → ℕ → Option (List ArgumentType) → Type 0
looked_up answers sender opcode found = (r : Option (Bor (List ArgumentType))) × answers sender opcode r × (found ≡ option_copied r)
