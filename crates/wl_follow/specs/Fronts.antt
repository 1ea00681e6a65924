-- The message at the front of what a side sent, under the row that the table has of it.
use Rattle.std.specs.Prelude.{◌≡◌, ℕ, ◌<◌, ◌≤◌, ◌⊎◌, List, length, None, Option, Some, MatchOption}
use Rattle.wl_wire.specs.declared.argument.ArgumentType.{ArgumentType}
use Rattle.wl_wire.specs.declared.error.MessageParseError.TheVariants as errors
use Rattle.wl_wire.specs.declared.interface.InterfaceId.{InterfaceId}
use Rattle.wl_wire.specs.Message.{WireMessage}
use Rattle.wl_wire.specs.MessageRows.{event_row, request_row}
use Rattle.wl_wire.specs.Parse.{ReadsMessage, RefusesMessage, opcode_of, sender_of}
use Rattle.wl_wire.specs.Table.{InterfaceRow, MessageRow}
use Rattle.wl_link.specs.declared.object.Object.{Object}
use Rattle.wl_link.specs.Exchange.{Queue}
use Rattle.wl_link.specs.Store.{Store, held}
use Rattle.wl_follow.specs.declared.front.NoMessage.{NoMessage}
use Rattle.wl_follow.specs.declared.front.NoMessage.TheVariants as none
use Rattle.wl_follow.specs.declared.side.Side.{Side}
use Rattle.wl_follow.specs.declared.side.Side.TheVariants.{Client, Server}

-- a client sends requests, and a server events
abbrev pub row_at : List InterfaceRow → Side → InterfaceId → ℕ → Option MessageRow
row_at table Client interface opcode = request_row table interface opcode
row_at table Server interface opcode = event_row table interface opcode

-- the sender is this object, and the table has this row of the message
abbrev pub IsKnown : List InterfaceRow → Store (Unit {0}) → Side → ℕ → ℕ → Object (Unit {0}) → MessageRow → Type 0
IsKnown table objects side sender opcode object row =
    (held objects sender ≡ Some object) × (row_at table side object.interface opcode ≡ Some row)

-- the sender is no object that is known, or the table has no such message of its interface
abbrev pub IsUnknown : List InterfaceRow → Store (Unit {0}) → Side → ℕ → ℕ → Type 0
IsUnknown table objects side sender opcode =
    MatchOption (held objects sender) (Unit {0}) (λ object. row_at table side object.interface opcode ≡ None)

-- the message at the front is of this object and of this row, and is read as `m`
abbrev pub ReadsKnown : List InterfaceRow → Store (Unit {0}) → Side → Queue → Object (Unit {0}) → MessageRow → WireMessage → Type 0
ReadsKnown table objects side q object row m =
    IsKnown table objects side m.sender m.opcode object row × ReadsMessage q.bytes row.signature q.tokens m

-- the message at the front is not there to its end, or lacks a descriptor
abbrev pub LacksPart : List ArgumentType → Queue → Type 0
LacksPart signature q =
    RefusesMessage q.bytes signature q.tokens errors.MissingData ⊎ RefusesMessage q.bytes signature q.tokens errors.MissingFD

-- The message at the front is of an object that is known, and the table has a row of it. Under this row the parser refuses it so.
abbrev pub RefusesKnown : List InterfaceRow → Store (Unit {0}) → Side → Queue → (List ArgumentType → Type 0) → Type 0
RefusesKnown table objects side q Refuses =
    (object : Object (Unit {0})) × (row : MessageRow) × IsKnown table objects side (sender_of q.bytes) (opcode_of q.bytes) object row
    × Refuses row.signature

-- why no message of a known object is read
abbrev pub HasNoMessage : List InterfaceRow → Store (Unit {0}) → Side → Queue → NoMessage → Type 0
HasNoMessage table objects side q (none.Unknown sender opcode) =
    (8 ≤ length q.bytes) × (sender ≡ sender_of q.bytes) × (opcode ≡ opcode_of q.bytes) × IsUnknown table objects side sender opcode
HasNoMessage table objects side q none.Incomplete =
    (length q.bytes < 8) ⊎ RefusesKnown table objects side q (λ signature. LacksPart signature q)
HasNoMessage table objects side q none.Malformed =
    (8 ≤ length q.bytes) × RefusesKnown table objects side q (λ signature. RefusesMessage q.bytes signature q.tokens errors.Malformed)
HasNoMessage table objects side q none.OutOfMemory =
    (8 ≤ length q.bytes) × RefusesKnown table objects side q (λ signature. RefusesMessage q.bytes signature q.tokens errors.OutOfMemory)
