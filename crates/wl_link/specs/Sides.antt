-- The calls on both sides of a link, one after another, and the messages that they carry.
use Rattle.std.specs.Prelude.{◌≡◌, ◌≢◌, ℕ, ◌≤◌, Bool, true, false, List, [], ◌∷◌, ◌++◌, Option, Some, None, Result, Ok, Err, MatchOption, IfOk, ◌↔◌}
use Rattle.std.specs.List.{AllByRecursion}
use Rattle.wl_wire.specs.declared.argument.ArgumentType.{ArgumentType}
use Rattle.wl_wire.specs.declared.error.IoFault.{IoFault}
use Rattle.wl_wire.specs.declared.error.MessageParseError.{MessageParseError}
use Rattle.wl_wire.specs.declared.error.MessageParseError.TheVariants as errors
use Rattle.wl_wire.specs.Argument.{Matches}
use Rattle.wl_wire.specs.Message.{WireMessage, IsMessage}
use Rattle.wl_wire.specs.Stream.{Stream}
use Rattle.wl_link.specs.Exchange.{Queue, Sending, joined, nothing}
use Rattle.wl_link.specs.Link.{EachWithin, LinkState, with_transport, FlushedBy, WroteBy, FilledBy, incoming_limit, with_came, ReadOne, spelled}
use Rattle.wl_link.specs.NothingLost.{taken, NoZero}

-- ---- the sending side

-- a write of a message, or a flush if there is no message; its sends, and its answer
pub record SenderCall : Type 0 where
  pub message : Option WireMessage
  pub sends : List Sending
  pub answer : Result (Unit {0}) IoFault

abbrev pub SenderStep : {T : Type 0} → (T → Queue → Result ℕ IoFault → T → Type 0) → LinkState T → SenderCall → LinkState T → Type 0
SenderStep sends before c after =
    MatchOption c.message (FlushedBy sends before c.sends c.answer after) (λ m. WroteBy sends before m c.sends c.answer after)

-- the calls one after another; between two of them the transport may be changed
abbrev pub SenderRun : {T : Type 0} → (T → Queue → Result ℕ IoFault → T → Type 0) → LinkState T → List SenderCall → LinkState T → Type 0
SenderRun sends before [] after = after ≡ before
SenderRun {T = T} sends before (c ∷ cs) after =
    (t : T) × (mid : LinkState T) × SenderStep sends (with_transport before t) c mid × SenderRun sends mid cs after

-- the messages of the writes that were answered by Ok
abbrev pub written_by : Option WireMessage → Result (Unit {0}) IoFault → List WireMessage
written_by (Some m) (Ok u) = m ∷ []
written_by (Some m) (Err fault) = []
written_by None answer = []

abbrev pub written : List SenderCall → List WireMessage
written [] = []
written (c ∷ cs) = written_by c.message c.answer ++ written cs

-- what the transport took in all
abbrev pub all_taken : List SenderCall → Queue
all_taken [] = nothing
all_taken (c ∷ cs) = joined (taken c.sends) (all_taken cs)

-- no send answered 0
abbrev pub NoneZero : List SenderCall → Type 0
NoneZero cs = AllByRecursion (λ c. NoZero c.sends) cs

-- ---- the receiving side

-- a fill, with what it received, if there was memory for it; or a read, with its answer
pub data ReceiverCall : Type 0 where
  ByFill : Option (Result Queue IoFault) → ReceiverCall
  ByRead : Result WireMessage MessageParseError → ReceiverCall

abbrev pub ReceiverStep : {T : Type 0} → (T → ℕ → Result Queue IoFault → T → Type 0) → (ℕ → ℕ → Option (List ArgumentType))
    → LinkState T → ReceiverCall → LinkState T → Type 0
ReceiverStep receives look_up before (ByFill None) after = after ≡ before
ReceiverStep receives look_up before (ByFill (Some received)) after =
    (answer : Result (Unit {0}) IoFault) × FilledBy receives before received answer after
ReceiverStep receives look_up before (ByRead answer) after = ReadOne (λ sender opcode found. found ≡ look_up sender opcode) before answer after

abbrev pub ReceiverRun : {T : Type 0} → (T → ℕ → Result Queue IoFault → T → Type 0) → (ℕ → ℕ → Option (List ArgumentType))
    → LinkState T → List ReceiverCall → LinkState T → Type 0
ReceiverRun receives look_up before [] after = after ≡ before
ReceiverRun {T = T} receives look_up before (c ∷ cs) after =
    (t : T) × (mid : LinkState T) × ReceiverStep receives look_up (with_transport before t) c mid × ReceiverRun receives look_up mid cs after

abbrev pub brought_by : ReceiverCall → Queue
brought_by (ByFill (Some (Ok came))) = came
brought_by (ByFill (Some (Err fault))) = nothing
brought_by (ByFill None) = nothing
brought_by (ByRead answer) = nothing

-- what came in all
abbrev pub all_came : List ReceiverCall → Queue
all_came [] = nothing
all_came (c ∷ cs) = joined (brought_by c) (all_came cs)

abbrev pub read_by : ReceiverCall → List WireMessage
read_by (ByRead (Ok m)) = m ∷ []
read_by (ByRead (Err e)) = []
read_by (ByFill received) = []

-- the messages that were read
abbrev pub messages_read : List ReceiverCall → List WireMessage
messages_read [] = []
messages_read (c ∷ cs) = read_by c ++ messages_read cs

-- ---- messages

-- the messages' bytes and tokens, one message after another
abbrev pub spelled_all : List WireMessage → Queue
spelled_all [] = nothing
spelled_all (m ∷ ms) = joined (spelled m) (spelled_all ms)

-- a message that can be written, and whose arguments match the signature that the look-up gives
pub record IsReadable (look_up : ℕ → ℕ → Option (List ArgumentType)) (m : WireMessage) : Type 0 where
  pub message : IsMessage m
  pub signature : List ArgumentType
  pub looked_up : look_up m.sender m.opcode ≡ Some signature
  pub matches : Matches signature m.args

-- ---- the laws

-- Messages are read in the order in which they were written, if bytes and tokens are carried in order; they may be cut
-- anywhere into sends and receives. The messages that were read are the first of those that were written. The others are
-- what waits for reading, then what is under way, then what waits for sending.
abbrev pub StreamLaw : {S R : Type 0} → (S → Queue → Result ℕ IoFault → S → Type 0) → (R → ℕ → Result Queue IoFault → R → Type 0) → Type 0
StreamLaw {S = S} {R = R} sends receives =
    (look_up : ℕ → ℕ → Option (List ArgumentType)) (start end : LinkState S) (sent : List SenderCall)
    (empty full : LinkState R) (got : List ReceiverCall) (under_way : Queue)
    → SenderRun sends start sent end → start.outgoing ≡ nothing → NoneZero sent → AllByRecursion (IsReadable look_up) (written sent)
    → ReceiverRun receives look_up empty got full → empty.incoming ≡ nothing
    → joined (all_came got) under_way ≡ all_taken sent
    → (left : List WireMessage) × (written sent ≡ messages_read got ++ left)
    × (joined full.incoming (joined under_way end.outgoing) ≡ spelled_all left)

-- If nothing waits for sending, nothing is under way, and the next read finds no message, then all messages that were
-- written have been read. In that read memory is not refused.
abbrev pub AllReadLaw : {S R : Type 0} → (S → Queue → Result ℕ IoFault → S → Type 0) → (R → ℕ → Result Queue IoFault → R → Type 0) → Type 0
AllReadLaw {S = S} {R = R} sends receives =
    (look_up : ℕ → ℕ → Option (List ArgumentType)) (start end : LinkState S) (sent : List SenderCall)
    (empty full after : LinkState R) (got : List ReceiverCall) (e : MessageParseError)
    → SenderRun sends start sent end → start.outgoing ≡ nothing → NoneZero sent → AllByRecursion (IsReadable look_up) (written sent)
    → ReceiverRun receives look_up empty got full → empty.incoming ≡ nothing
    → all_came got ≡ all_taken sent → end.outgoing ≡ nothing
    → ReceiverStep receives look_up full (ByRead (Err e)) after → e ≢ errors.OutOfMemory
    → messages_read got ≡ written sent

-- Two receives leave what one receive of both parts would leave, even if a read between them finds no message.
abbrev pub CuttingLaw : {T : Type 0} → (T → ℕ → Result Queue IoFault → T → Type 0) → Type 0
CuttingLaw {T = T} receives =
    (look_up : ℕ → ℕ → Option (List ArgumentType)) (start mid between end at_once : LinkState T) (x y : Queue)
    (a b c : Result (Unit {0}) IoFault) (e : MessageParseError)
    → FilledBy receives start (Ok x) a mid → ReceiverStep receives look_up mid (ByRead (Err e)) between → FilledBy receives between (Ok y) b end
    → (end.incoming ≡ with_came start.incoming (Ok (joined x y)))
    × (FilledBy receives start (Ok (joined x y)) c at_once → end.incoming ≡ at_once.incoming)

-- ---- room

-- Each receive is made only if the read before it lacked bytes or tokens. At first nothing waits, and no read is needed.
abbrev pub InNeed : Bool → List ReceiverCall → Type 0
InNeed lacking [] = Unit {0}
InNeed lacking (ByFill None ∷ cs) = InNeed lacking cs
InNeed lacking (ByFill (Some received) ∷ cs) = (lacking ≡ true) × InNeed false cs
InNeed lacking (ByRead (Ok m) ∷ cs) = InNeed false cs
InNeed lacking (ByRead (Err errors.MissingData) ∷ cs) = InNeed true cs
InNeed lacking (ByRead (Err errors.MissingFD) ∷ cs) = InNeed true cs
InNeed lacking (ByRead (Err errors.Malformed) ∷ cs) = InNeed false cs
InNeed lacking (ByRead (Err errors.OutOfMemory) ∷ cs) = InNeed false cs

-- tokens come no later than the last byte of their message, so no read lacks them
abbrev pub InTime : List ReceiverCall → Type 0
InTime cs = AllByRecursion (λ c. c ≢ ByRead (Err errors.MissingFD)) cs

-- a receive that is offered at least one byte
abbrev pub roomy : {T : Type 0} → (T → ℕ → Result Queue IoFault → T → Type 0) → T → ℕ → Result Queue IoFault → T → Type 0
roomy receives before room received after = receives before room received after × (room ≢ 0)

-- If each message is no longer than the incoming buffer may become, each receive that is made in need is offered at least
-- one byte. So none finds the buffer full.
abbrev pub RoomLaw : {T : Type 0} → (T → ℕ → Result Queue IoFault → T → Type 0) → Type 0
RoomLaw {T = T} receives =
    (look_up : ℕ → ℕ → Option (List ArgumentType)) (empty full : LinkState T) (got : List ReceiverCall)
    → ReceiverRun receives look_up empty got full → empty.incoming ≡ nothing → 8 ≤ empty.incoming_capacity
    → EachWithin (incoming_limit empty.limit) (all_came got).bytes → InNeed true got → InTime got
    → ReceiverRun (roomy receives) look_up empty got full

-- ---- a read

-- A read that is answered by Ok takes the first message off the stream: before it the stream is that message and then
-- others, exactly if after it the stream is these others.
abbrev pub TakesFirst : (ℕ → ℕ → Option (List ArgumentType)) → Queue → WireMessage → Queue → Type 0
TakesFirst look_up before m after =
    (ms : List WireMessage) → Stream look_up (m ∷ ms) before.bytes before.tokens ↔ Stream look_up ms after.bytes after.tokens

-- a read that is answered by Ok takes the first message off the stream, under each look-up function that answers as the
-- look-up of the read did
abbrev pub ReadTakes : {T : Type 0} → (ℕ → ℕ → Option (List ArgumentType) → Type 0) → LinkState T → Result WireMessage MessageParseError → LinkState T → Type 0
ReadTakes looks_up before answer after =
    (look_up : ℕ → ℕ → Option (List ArgumentType))
    → ((sender opcode : ℕ) (found : Option (List ArgumentType)) → looks_up sender opcode found → found ≡ look_up sender opcode)
    → IfOk answer (λ m. TakesFirst look_up before.incoming m after.incoming)
