-- What the table asks of a message, and what its arguments are to it.
--
-- A message of the table is found by its interface and its opcode. Each object argument takes the next of the
-- interfaces that the message asks for.
use Rattle.std.specs.Prelude.{ℕ, List, [], ◌∷◌, Option, None, Some, Bool, true, false, ◌&&◌, ◌==◌, if◌then◌else◌, slice_get}
use Rattle.std.specs.List.{list_any}
use Rattle.wl_wire.specs.declared.argument.Argument.{Argument}
use Rattle.wl_wire.specs.declared.argument.Argument.TheVariants as arg
use Rattle.wl_wire.specs.declared.argument.ArgumentType.{ArgumentType}
use Rattle.wl_wire.specs.declared.argument.ArgumentType.TheVariants as kind
use Rattle.wl_wire.specs.declared.interface.InterfaceId.{InterfaceId}
use Rattle.wl_wire.specs.Argument.{type_of}
use Rattle.wl_wire.specs.Table.{InterfaceRow, MessageRow, anonymous_id, is_new_id}

-- ---- the messages of an interface

-- the request or the event of that opcode
abbrev pub row_at : List MessageRow → ℕ → Option MessageRow
row_at rows opcode = slice_get rows opcode

abbrev pub event_in : Option InterfaceRow → ℕ → Option MessageRow
event_in None opcode = None
event_in (Some row) opcode = row_at row.events opcode

abbrev pub request_in : Option InterfaceRow → ℕ → Option MessageRow
request_in None opcode = None
request_in (Some row) opcode = row_at row.requests opcode

abbrev pub event_row : List InterfaceRow → InterfaceId → ℕ → Option MessageRow
event_row table i opcode = event_in (slice_get table i.0) opcode

abbrev pub request_row : List InterfaceRow → InterfaceId → ℕ → Option MessageRow
request_row table i opcode = request_in (slice_get table i.0) opcode

-- the message makes an object
abbrev pub creates : MessageRow → Bool
creates row = list_any is_new_id row.signature

-- ---- the interfaces that it asks for

-- if none is left, any object will do
abbrev pub next_interface : List InterfaceId → InterfaceId
next_interface [] = anonymous_id
next_interface (i ∷ _) = i

abbrev pub rest_of : List InterfaceId → List InterfaceId
rest_of [] = []
rest_of (_ ∷ rest) = rest

-- each object argument takes the next of the interfaces
abbrev pub left_after : {Id Fd : Type 0} → Argument Id Fd → List InterfaceId → List InterfaceId
left_after (arg.Object _) asked = rest_of asked
left_after _ asked = asked

-- an object of the second interface may stand where the first is asked for; the anonymous one takes any
abbrev pub fits : InterfaceId → InterfaceId → Bool
fits asked i = if asked.0 == i.0 then true else asked.0 == anonymous_id.0

-- ---- the types of its arguments

-- a number for each type, whether it allows null or not
abbrev pub type_number : ArgumentType → ℕ
type_number kind.Int = 0
type_number kind.Uint = 1
type_number kind.Fixed = 2
type_number (kind.Str _) = 3
type_number (kind.Object _) = 4
type_number kind.NewId = 5
type_number kind.Array = 6
type_number kind.Fd = 7

-- the arguments fit the signature: what `Matches` says, as a truth value
abbrev pub matches : {Id Fd : Type 0} → List ArgumentType → List (Argument Id Fd) → Bool
matches [] [] = true
matches (k ∷ kinds) [] = false
matches [] (a ∷ args) = false
matches (k ∷ kinds) (a ∷ args) = (type_number k == type_number (type_of a)) && matches kinds args
