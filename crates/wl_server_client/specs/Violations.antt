-- How a client breaks the protocol by a message: what is kept where it is killed for that.
--
-- The definition of a reading says for each message that is refused which violation it is (`Reading`).
use Rattle.std.specs.Prelude.{ℕ, ◌+◌, List, [], ◌∷◌, nat_lt, if◌then◌else◌, Option, None, Some, is_some, Result, Ok, Err}
use Rattle.std.specs.Option.{option_map_or}
use Rattle.wl_wire.specs.declared.argument.ArgumentType.{ArgumentType}
use Rattle.wl_wire.specs.declared.argument.ArgumentType.TheVariants as kind
use Rattle.wl_wire.specs.declared.interface.InterfaceId.{InterfaceId}
use Rattle.wl_wire.specs.Pieces.{counted_at, text_of, word_at}
use Rattle.wl_wire.specs.Table.{MessageRow, anonymous_id}
use Rattle.wl_link.specs.declared.object.Object.{Object}
use Rattle.wl_server_client.specs.declared.objects.Kept.{Kept}
use Rattle.wl_server_client.specs.declared.reading.violation.MessageFault.{MessageFault}
use Rattle.wl_server_client.specs.declared.reading.violation.MessageFault.TheVariants as fault
use Rattle.wl_server_client.specs.declared.reading.violation.Violation.{Violation}

-- ---- which message it is

-- a message: the number in its header, the interface of the object that has the number, and the opcode
pub record Addressed : Type 0 where
  pub sender : ℕ
  pub interface : InterfaceId
  pub opcode : ℕ

abbrev pub violation : Addressed → MessageFault → Violation
violation to f = record { sender_id = to.sender; interface = to.interface; opcode = to.opcode; fault = f }

module _ {U : Type 0} where
  -- where no object has the number, the interface is the anonymous one
  abbrev pub interface_of : Option (Object (Kept U)) → InterfaceId
  interface_of receiver = option_map_or (λ x. x.interface) receiver anonymous_id

  abbrev pub addressed : ℕ → Option (Object (Kept U)) → ℕ → Addressed
  addressed sender receiver opcode = record { sender = sender; interface = interface_of receiver; opcode = opcode }

-- ---- arguments that cannot be read

-- what follows an argument, if its bytes are there
abbrev pub rest_or : {A : Type 0} → ℕ → Option (A × List ℕ) → Result (List ℕ) MessageFault
rest_or place None = Err (fault.MissingBytes place)
rest_or place (Some x) = Ok x.1

-- and if they are a string, or null
abbrev pub rest_of_text : ℕ → Option (List ℕ × List ℕ) → Result (List ℕ) MessageFault
rest_of_text place None = Err (fault.MissingBytes place)
rest_of_text place (Some x) = if is_some (text_of x.0) then Ok x.1 else Err (fault.UnendedString place)

-- what follows the argument at that place, which is of that type; or why it cannot be read
abbrev pub rest_after : ℕ → ArgumentType → List ℕ → Result (List ℕ) MessageFault
rest_after place (kind.Str _) bytes = rest_of_text place (counted_at bytes)
rest_after place kind.Array bytes = rest_or place (counted_at bytes)
rest_after place kind.Fd bytes = Ok bytes
rest_after place _ bytes = rest_or place (word_at bytes)

abbrev pub unless_wrong : Result (List ℕ) MessageFault → (List ℕ → MessageFault) → MessageFault
unless_wrong (Ok rest) on = on rest
unless_wrong (Err f) on = f

-- what is wrong with the first argument that cannot be read, of those from that place on
abbrev pub misread : ℕ → List ArgumentType → List ℕ → MessageFault
misread place [] bytes = fault.MissingBytes place
misread place (k ∷ kinds) bytes = unless_wrong (rest_after place k bytes) (λ rest. misread (place + 1) kinds rest)

-- What is wrong with a malformed message: of an object that is there or not, and of a request that the table has or not. The
-- size is that in the header.
abbrev pub unread_fault : {U : Type 0} → Option (Object (Kept U)) → Option MessageRow → ℕ → List ℕ → MessageFault
unread_fault None row size payload = fault.UnknownSender
unread_fault (Some x) None size payload = fault.UnknownOpcode
unread_fault (Some x) (Some row) size payload = if nat_lt size 8 then fault.ShortHeader else misread 0 row.signature payload
