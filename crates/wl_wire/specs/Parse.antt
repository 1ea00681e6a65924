-- What a parser answers of the bytes at hand, a signature and the tokens that wait.
use Rattle.std.specs.Prelude.{◌≡◌, ℕ, ◌/◌, ◌%◌, ◌<◌, ◌≤◌, ◌⊎◌, List, length, take, drop, All, Bool, true, false, count_by}
use Rattle.std.specs.Int.{w32, from_le_bytes}
use Rattle.wl_wire.specs.declared.argument.ArgumentType.{ArgumentType}
use Rattle.wl_wire.specs.declared.argument.ArgumentType.TheVariants as kind
use Rattle.wl_wire.specs.declared.argument.Token.{Token}
use Rattle.wl_wire.specs.declared.error.MessageParseError.{MessageParseError}
use Rattle.wl_wire.specs.declared.error.MessageParseError.TheVariants as errors
use Rattle.wl_wire.specs.Argument.{WireArgument}
use Rattle.wl_wire.specs.Message.{WireMessage}
use Rattle.wl_wire.specs.Reading.{Reads}

-- ---- the header

-- the first word is the sender
unfoldable pub sender_of : List ℕ → ℕ
sender_of raw = from_le_bytes w32 (take 4 raw)

unfoldable pub second_word : List ℕ → ℕ
second_word raw = from_le_bytes w32 (take 4 (drop 4 raw))

-- the upper half of the second word is the message's length, its lower half the opcode
abbrev pub length_of : List ℕ → ℕ
length_of raw = second_word raw / 65536

abbrev pub opcode_of : List ℕ → ℕ
opcode_of raw = second_word raw % 65536

-- the arguments' bytes, with what is ignored after them
abbrev pub payload_of : List ℕ → List ℕ
payload_of raw = drop 8 (take (length_of raw) raw)

-- a whole message stands at the front: its header, and as many bytes as the header says
pub record IsWhole (raw : List ℕ) : Type 0 where
  pub header : 8 ≤ length raw
  pub counts_header : 8 ≤ length_of raw
  pub there : length_of raw ≤ length raw

-- ---- the signature

abbrev pub is_fd : ArgumentType → Bool
is_fd kind.Fd = true
is_fd _ = false

-- how many descriptors a message of that signature has
abbrev pub fd_count : List ArgumentType → ℕ
fd_count signature = count_by is_fd signature

-- an argument of that type never needs memory of its own
abbrev pub IsSmall : ArgumentType → Type 0
IsSmall (kind.Str _) = ⊥
IsSmall kind.Array = ⊥
IsSmall _ = Unit {0}

-- a message of that signature needs no memory: its arguments lie in the message itself
abbrev pub IsInline : List ArgumentType → Type 0
IsInline signature = (length signature ≤ 4) × All IsSmall signature

-- ---- the answers

-- the message at the front of the bytes and of the tokens
pub record ReadsMessage (raw : List ℕ) (signature : List ArgumentType) (fds : List Token) (m : WireMessage) : Type 0 where
  pub whole : IsWhole raw
  pub sender : m.sender ≡ sender_of raw
  pub opcode : m.opcode ≡ opcode_of raw
  pub args : Reads signature m.args (payload_of raw) fds

-- the bytes and tokens cannot be read as arguments
abbrev pub DoesNotRead : List ArgumentType → List ℕ → List Token → Type 0
DoesNotRead signature payload fds = (args : List WireArgument) → ¬ (Reads signature args payload fds)

-- the message is there, and so are its tokens
abbrev pub IsThere : List ℕ → List ArgumentType → List Token → Type 0
IsThere raw signature fds = IsWhole raw × (fd_count signature ≤ length fds)

-- which error it is if no message is given out, in the order of the decisions
abbrev pub RefusesMessage : List ℕ → List ArgumentType → List Token → MessageParseError → Type 0
RefusesMessage raw signature fds errors.MissingData =
    (length raw < 8) ⊎ ((8 ≤ length raw) × (8 ≤ length_of raw) × (length raw < length_of raw))
RefusesMessage raw signature fds errors.MissingFD = IsWhole raw × (length fds < fd_count signature)
RefusesMessage raw signature fds errors.Malformed =
    ((8 ≤ length raw) × (length_of raw < 8)) ⊎ (IsThere raw signature fds × DoesNotRead signature (payload_of raw) fds)
RefusesMessage raw signature fds errors.OutOfMemory =
    IsThere raw signature fds × ((args : List WireArgument) × Reads signature args (payload_of raw) fds)
