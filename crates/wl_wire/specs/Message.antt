-- The bytes of a message.
--
-- A message is the number of its sender in four bytes, a word whose upper half is the message's length and whose
-- lower half is its opcode, and the pieces of its arguments, one after another. The length counts all of the
-- message's bytes. A word has four bytes, the lowest first. A number or an object takes one word. A string is
-- counted bytes with a zero at their end, a null string is the word 0, and an array is counted bytes. A descriptor
-- takes no bytes: its token goes beside the bytes, in the order of the arguments.
use Rattle.std.specs.Prelude.{ℕ, ◌+◌, ◌*◌, ◌-◌, ◌%◌, ◌^◌, ◌<◌, ◌≤◌, FitsSigned, List, [], ◌∷◌, ◌++◌, length, replicate, Some, None}
use Rattle.std.specs.List.{flat_map, AllByRecursion}
use Rattle.std.specs.Int.{w32, to_le_bytes, cast_unsigned}
use Rattle.wl_wire.specs.declared.argument.Argument.TheVariants as arg
use Rattle.wl_wire.specs.declared.argument.Token.{Token}
use Rattle.wl_wire.specs.declared.message.Message.{Message}
use Rattle.wl_wire.specs.Text.{HasNoZero}
use Rattle.wl_wire.specs.Argument.{WireArgument}

-- a message as contracts see it: its arguments are a plain list
pub record WireMessage : Type 0 where
  pub sender : ℕ
  pub opcode : ℕ
  pub args : List WireArgument

abbrev pub content : Message ℕ Token → WireMessage
content m = record { sender = m.sender_id; opcode = m.opcode; args = m.args.items }

-- four bytes, the lowest first
unfoldable pub word : ℕ → List ℕ
word n = to_le_bytes w32 n

-- how many bytes of padding follow n bytes, up to the next multiple of four
abbrev pub pad_len : ℕ → ℕ
pad_len n = (4 - n % 4) % 4

-- a count, that many bytes, and zeros to the next multiple of four
abbrev pub counted : List ℕ → List ℕ
counted bytes = word (length bytes) ++ bytes ++ replicate (pad_len (length bytes)) 0

-- the bytes of an argument
unfoldable pub piece : WireArgument → List ℕ
piece (arg.Int z) = word (cast_unsigned w32 z)
piece (arg.Uint n) = word n
piece (arg.Fixed z) = word (cast_unsigned w32 z)
piece (arg.Str None) = word 0
piece (arg.Str (Some text)) = counted (text ++ 0 ∷ [])
piece (arg.Object n) = word n
piece (arg.NewId n) = word n
piece (arg.Array bytes) = counted bytes
piece (arg.Fd _) = []

-- the token of an argument that has one
abbrev pub token : WireArgument → List Token
token (arg.Fd t) = t ∷ []
token _ = []

abbrev pub pieces : List WireArgument → List ℕ
pieces args = flat_map piece args

abbrev pub tokens : List WireArgument → List Token
tokens args = flat_map token args

-- how many bytes the message has
abbrev pub size : WireMessage → ℕ
size m = 8 + length (pieces m.args)

-- the message's bytes
abbrev pub spelling : WireMessage → List ℕ
spelling m = word m.sender ++ word (size m * 65536 + m.opcode) ++ pieces m.args

-- the value is one that its type has on the wire
abbrev pub IsArgument : WireArgument → Type 0
IsArgument (arg.Int z) = FitsSigned w32 z
IsArgument (arg.Uint n) = n < 2 ^ 32
IsArgument (arg.Fixed z) = FitsSigned w32 z
IsArgument (arg.Str None) = Unit {0}
IsArgument (arg.Str (Some text)) = HasNoZero text
IsArgument (arg.Object n) = n < 2 ^ 32
IsArgument (arg.NewId n) = n < 2 ^ 32
IsArgument (arg.Array bytes) = Unit {0}
IsArgument (arg.Fd _) = Unit {0}

-- a message that can be written: each number is one of its type, and the bytes are at most 65535
pub record IsMessage (m : WireMessage) : Type 0 where
  pub sender : m.sender < 2 ^ 32
  pub opcode : m.opcode < 2 ^ 16
  pub args : AllByRecursion IsArgument m.args
  pub size : size m ≤ 65535
