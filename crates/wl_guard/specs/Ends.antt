-- How a connection ends, and what the client is told of that.
use Rattle.std.specs.Prelude.{◌≡◌, ℕ, ◌⊎◌, Bool, true, false, ◌||◌, ◌++◌, List, [], ◌∷◌, codes, if◌then◌else◌, length, nat_le, nat_lt, Option, None, Some}
use Rattle.std.specs.Fmt.{decimal}
use Rattle.std.specs.Option.{option_map_or}
use Rattle.wl_wire.specs.declared.argument.Argument.TheVariants as arg
use Rattle.wl_wire.specs.declared.argument.Token.{Token}
use Rattle.wl_wire.specs.Message.{WireMessage, spelling}
use Rattle.wl_wire.specs.MessageRows.{request_row}
use Rattle.wl_wire.specs.Parse.{opcode_of, sender_of}
use Rattle.wl_wire.specs.Table.{InterfaceRow, name_of}
use Rattle.wl_link.specs.declared.object.Object.{Object}
use Rattle.wl_link.specs.Exchange.{Queue, joined}
use Rattle.wl_link.specs.Store.{Store, held}
use Rattle.wl_follow.specs.declared.side.Side.{Side}
use Rattle.wl_follow.specs.declared.side.Side.TheVariants.{Client, Server}
use Rattle.wl_guard.specs.Known.{Known}
use Rattle.wl_guard.specs.Passages.{Awaits, Breaks}
use Rattle.wl_guard.specs.Policy.{PolicyState}
use Rattle.wl_guard.specs.Steps.{HasPassed}
use Rattle.wl_guard.specs.declared.ending.Breach.{Breach}
use Rattle.wl_guard.specs.declared.ending.End.{End}
use Rattle.wl_guard.specs.declared.ending.End.TheVariants as end
use Rattle.wl_guard.specs.declared.session.Rule.{Rule}
use Rattle.wl_guard.specs.declared.session.Rule.TheVariants as rule

-- more than 112 tokens wait for a message, or 65536 bytes or more, though a message has fewer: it lacks a descriptor
abbrev pub hoards : Queue → Bool
hoards q = nat_lt 112 (length q.tokens) || nat_le 65536 (length q.bytes)

-- the number of the sender and the opcode of the message at the front; 0 if not even its header is there
abbrev pub front_sender : Queue → ℕ
front_sender q = if nat_lt (length q.bytes) 8 then 0 else sender_of q.bytes

abbrev pub front_opcode : Queue → ℕ
front_opcode q = if nat_lt (length q.bytes) 8 then 0 else opcode_of q.bytes

-- Why no more is passed of what a side sent. The breach names the message at the front, which makes no object.
abbrev pub StopsBy : PolicyState → Side → Known → Queue → Option End → Known → Type 0
StopsBy p side k q None k' = (k' ≡ k) × Awaits p side k q × (hoards q ≡ false)
StopsBy p side k q (Some (end.Breach b)) k' =
    (b.side ≡ side) × (b.object ≡ front_sender q) × (b.opcode ≡ front_opcode q) × (k'.objects ≡ k.objects)
    × (Breaks p side k q b.rule ⊎ ((b.rule ≡ rule.Descriptors) × Awaits p side k q × (hoards q ≡ true)))
StopsBy p side k q (Some end.OutOfMemory) k' = Unit {0}
StopsBy p side k q (Some end.HungUp) k' = ⊥

-- the end, if there is one for what waits
abbrev pub HoardsAs : Side → Queue → Option End → Type 0
HoardsAs side q None = hoards q ≡ false
HoardsAs side q (Some (end.Breach b)) =
    (hoards q ≡ true) × (b.side ≡ side) × (b.rule ≡ rule.Descriptors) × (b.object ≡ front_sender q) × (b.opcode ≡ front_opcode q)
HoardsAs side q (Some _) = ⊥

-- the messages of what a side sent were passed, up to one that is not, and to an end if it is one
abbrev pub PassesToEnd : PolicyState → Side → Known → Queue → Queue → List Token → Option End → Known → Queue → Queue → List Token → Type 0
PassesToEnd p side k q out released e k' rest out' released' =
    (last : Known) × HasPassed p side k q out released last rest out' released' × StopsBy p side last rest e k'

-- ---- the error

abbrev pub rule_name : Rule → List ℕ
rule_name rule.Malformed = codes "the format"
rule_name rule.Unknown = codes "the table"
rule_name rule.Destroyed = codes "its destructor"
rule_name rule.Length = codes "its length"
rule_name rule.Version = codes "its version"
rule_name rule.Policy = codes "policy"
rule_name rule.Global = codes "what was announced"
rule_name rule.NewId = codes "its new number"
rule_name rule.Objects = codes "the limit of objects"
rule_name rule.Globals = codes "the limit of globals"
rule_name rule.Descriptors = codes "its descriptors"

-- the name of the interface of the object that has the number
abbrev pub object_name : List InterfaceRow → Store (Unit {0}) → ℕ → List ℕ
object_name table objects number = option_map_or (λ o. name_of table o.interface.0) (held objects number) (codes "[unknown]")

-- the name of a request of that object
abbrev pub row_name : List InterfaceRow → ℕ → Option (Object (Unit {0})) → List ℕ
row_name table opcode None = codes "[unknown]"
row_name table opcode (Some o) = option_map_or (λ row. row.name) (request_row table o.interface opcode) (codes "[unknown]")

abbrev pub rule_text : Rule → List ℕ
rule_text r = codes "refused by " ++ rule_name r ++ codes ": "

abbrev pub object_text : List ℕ → ℕ → List ℕ
object_text name number = name ++ codes "#" ++ decimal number ++ codes "."

-- what tells the client which rule which request of it broke
abbrev pub breach_text : List InterfaceRow → Store (Unit {0}) → Breach → List ℕ
breach_text table objects b =
    rule_text b.rule ++ object_text (object_name table objects b.object) b.object ++ row_name table b.opcode (held objects b.object)

-- The event `wl_display.error` with this text. It is about the display, since the client may not know another number, and its code is
-- that of an error of the implementation.
abbrev pub error_event : List ℕ → WireMessage
error_event text = record { sender = 1; opcode = 0; args = arg.Object 1 ∷ arg.Uint 3 ∷ arg.Str (Some text) ∷ [] }

abbrev pub error_of : PolicyState → Known → Breach → Queue
error_of p k b = record { bytes = spelling (error_event (breach_text p.table k.objects b)); tokens = [] }

-- what is to be sent to the side that was heard, for its breach: the error, if it is the client
abbrev pub told_for : PolicyState → Known → Breach → Side → Queue → Queue
told_for p k b Client out = joined out (error_of p k b)
told_for p k b Server out = out

abbrev pub told_end : PolicyState → Known → Option End → Queue → Queue
told_end p k (Some (end.Breach b)) out = told_for p k b b.side out
told_end p k _ out = out
