-- What the relay does with the messages of a side: their lines in the log, what goes on in their place, and the objects after them.
use Rattle.std.specs.Prelude.{◌≡◌, ℕ, ◌<◌, ◌≤◌, ◌⊎◌, Bool, true, false, ◌||◌, List, [], ◌∷◌, ◌++◌, codes, length, map, Option, None, Some, MatchBool, option_map}
use Rattle.std.specs.Fmt.{decimal}
use Rattle.std.specs.String.{string_bytes}
use Rattle.wl_wire.specs.declared.error.MessageParseError.TheVariants as errors
use Rattle.wl_wire.specs.declared.interface.InterfaceId.{InterfaceId}
use Rattle.wl_wire.specs.LogText.{message_text}
use Rattle.wl_wire.specs.Message.{WireMessage}
use Rattle.wl_wire.specs.Parse.{IsWhole, ReadsMessage, RefusesMessage, length_of, opcode_of, sender_of}
use Rattle.wl_wire.specs.Table.{InterfaceRow, MessageRow}
use Rattle.wl_link.specs.declared.object.Object.{Object}
use Rattle.wl_link.specs.Exchange.{Queue, joined, nothing}
use Rattle.wl_link.specs.HandOn.{first_of}
use Rattle.wl_link.specs.Link.{after_first}
use Rattle.wl_link.specs.Store.{Store, held}
use Rattle.wl_follow.specs.Fronts.{IsKnown, IsUnknown, LacksPart}
use Rattle.wl_follow.specs.Sides.{fault_name, other_side, side_name}
use Rattle.wl_follow.specs.Objects.{NotesObjects}
use Rattle.wl_follow.specs.declared.objects.Deletions.{Deletions}
use Rattle.wl_follow.specs.declared.objects.Deletions.TheVariants.{Seen, Unseen}
use Rattle.wl_follow.specs.declared.objects.UnknownInterfaces.{UnknownInterfaces}
use Rattle.wl_follow.specs.declared.objects.UnknownInterfaces.TheVariants as unknown
use Rattle.wl_follow.specs.declared.side.Fault.{Fault}
use Rattle.wl_follow.specs.declared.side.Fault.TheVariants as fault
use Rattle.wl_follow.specs.declared.side.Side.{Side}
use Rattle.wl_follow.specs.declared.side.Side.TheVariants.{Client, Server}
use Rattle.wl_relay.specs.Announcements.{EditsMessage, going_on, is_change}
use Rattle.wl_relay.specs.declared.notes.Edit.{Edit}
use Rattle.wl_relay.specs.declared.notes.Edit.TheVariants as edit
use Rattle.wl_relay.specs.declared.notes.Notes.{Notes}
use Rattle.wl_relay.specs.declared.mode.Mode.{Mode}
use Rattle.wl_relay.specs.declared.mode.Mode.TheVariants.{HandOn, Log}

-- ---- what the relay knows

-- The kept objects, what is done with announcements, the lines that were not taken out yet, whether an announcement was dropped or
-- lowered, and whether what comes from a side is read.
pub record Known : Type 0 where
  pub objects : Store (Unit {0})
  pub mode : Mode
  pub log : List (List ℕ)
  pub has_changed : Bool
  pub follows_client : Bool
  pub follows_server : Bool

abbrev pub known : Notes → Known
known notes = record {
  objects = notes.objects.store;
  mode = notes.mode;
  log = map string_bytes notes.log.items;
  has_changed = notes.has_changed;
  follows_client = notes.follows_client;
  follows_server = notes.follows_server;
}

-- what comes from the side is read
abbrev pub follows : Side → Known → Bool
follows Client k = k.follows_client
follows Server k = k.follows_server

-- what comes from the other side is read
abbrev pub hears : Side → Known → Bool
hears side k = follows (other_side side) k

-- ---- lines

-- requests begin with an arrow
abbrev pub arrow : Side → List ℕ
arrow Client = codes " -> "
arrow Server = []

-- what is done with a message, if it is not handed on as it is
abbrev pub edit_text : Edit → List ℕ
edit_text edit.Nothing = []
edit_text edit.Drop = codes " [dropped]"
edit_text (edit.Lower version) = codes " [lowered to " ++ decimal version ++ codes "]"

-- the line of a message of an object of this interface, with its row of the table
abbrev pub message_line : List InterfaceRow → Store (Unit {0}) → Side → InterfaceId → MessageRow → WireMessage → Edit → List ℕ
message_line table objects side interface row m edit =
    arrow side ++ message_text table (λ number. option_map (λ o. o.interface) (held objects number)) interface row m ++ edit_text edit

abbrev pub unknown_text : ℕ → ℕ → List ℕ
unknown_text sender opcode = codes "[unknown]@" ++ decimal sender ++ codes ".[" ++ decimal opcode ++ codes "]"

-- the line of a message that was not read
abbrev pub unknown_line : Side → ℕ → ℕ → List ℕ
unknown_line side sender opcode = arrow side ++ unknown_text sender opcode

-- the line that says that the side is no longer read, and why
abbrev pub fault_line : Side → Fault → List ℕ
fault_line side fault = codes "[" ++ side_name side ++ codes " is no longer read: " ++ fault_name fault ++ codes "]"

-- a line says that the side is no longer read, and it no longer is
abbrev pub stopped : Side → Fault → Known → Known
stopped Client fault k = record k { log = k.log ++ fault_line Client fault ∷ []; follows_client = false }
stopped Server fault k = record k { log = k.log ++ fault_line Server fault ∷ []; follows_server = false }

-- ---- a message, and what becomes of it

-- in a log an object of an interface that the table lacks is noted
abbrev pub unknown_interfaces : Mode → UnknownInterfaces
unknown_interfaces HandOn = unknown.Refused
unknown_interfaces Log = unknown.Anonymous

-- deletions are seen while the other side is read
abbrev pub deletions : Bool → Deletions
deletions true = Seen
deletions false = Unseen

-- A message that was read: its line, what was done with it, and what goes on in its place.
pub record Passage : Type 0 where
  pub line : List ℕ
  pub edit : Edit
  pub sent : Queue

-- The objects after a message; one that is dropped or lowered, an announcement, changes none. `heard`, here and below: the other side is
-- read.
abbrev pub ObjectsAfter : List InterfaceRow → Mode → Side → Bool → Object (Unit {0}) → MessageRow → WireMessage → Store (Unit {0}) → Edit → Store (Unit {0}) → Type 0
ObjectsAfter table mode side heard object row m objects edit.Nothing objects' =
    NotesObjects table (unknown_interfaces mode) side (deletions heard) object row m objects None objects'
ObjectsAfter table mode side heard object row m objects _ objects' = objects' ≡ objects

-- The passage tells of the message at the front, which is known. `objects'` are the objects after it, and `after` is what follows it.
pub record TellsKnown (table : List InterfaceRow) (mode : Mode) (side : Side) (heard : Bool) (objects : Store (Unit {0})) (q : Queue) (p : Passage) (objects' : Store (Unit {0}))
    (after : Queue) : Type 0 where
  pub object : Object (Unit {0})
  pub row : MessageRow
  pub message : WireMessage
  pub is_known : IsKnown table objects side message.sender message.opcode object row
  pub reads : ReadsMessage q.bytes row.signature q.tokens message
  pub edits : EditsMessage table mode side object.interface message p.edit
  pub text : p.line ≡ message_line table objects side object.interface row message p.edit
  pub sent : p.sent ≡ going_on p.edit row.signature q message
  pub noted : ObjectsAfter table mode side heard object row message objects p.edit objects'
  pub rest : after ≡ after_first row.signature q

-- The passage tells of the message at the front, which is not known. Only a log goes on then.
pub record TellsUnknown (table : List InterfaceRow) (mode : Mode) (side : Side) (objects : Store (Unit {0})) (q : Queue) (p : Passage) (objects' : Store (Unit {0}))
    (after : Queue) : Type 0 where
  pub is_log : mode ≡ Log
  pub whole : IsWhole q.bytes
  pub is_unknown : IsUnknown table objects side (sender_of q.bytes) (opcode_of q.bytes)
  pub text : p.line ≡ unknown_line side (sender_of q.bytes) (opcode_of q.bytes)
  pub unedited : p.edit ≡ edit.Nothing
  pub sent : p.sent ≡ first_of [] q
  pub unnoted : objects' ≡ objects
  pub rest : after ≡ after_first [] q

abbrev pub Tells : List InterfaceRow → Mode → Side → Bool → Store (Unit {0}) → Queue → Passage → Store (Unit {0}) → Queue → Type 0
Tells table mode side heard objects q p objects' after =
    TellsKnown table mode side heard objects q p objects' after ⊎ TellsUnknown table mode side objects q p objects' after

-- ---- messages one after another

-- The passages tell of the messages at the front, in their order. `objects'` are the objects after them, and `rest` is what follows.
abbrev pub Passes : List InterfaceRow → Mode → Side → Bool → Store (Unit {0}) → Queue → List Passage → Store (Unit {0}) → Queue → Type 0
Passes table mode side heard objects q [] objects' rest = (objects' ≡ objects) × (rest ≡ q)
Passes table mode side heard objects q (p ∷ ps) objects' rest =
    (mid : Queue) × (mid_objects : Store (Unit {0})) × Tells table mode side heard objects q p mid_objects mid
    × Passes table mode side heard mid_objects mid ps objects' rest

abbrev pub lines_of : List Passage → List (List ℕ)
lines_of [] = []
lines_of (p ∷ ps) = p.line ∷ lines_of ps

-- what goes on in place of all of them
abbrev pub all_sent : List Passage → Queue
all_sent [] = nothing
all_sent (p ∷ ps) = joined p.sent (all_sent ps)

-- one of them was dropped or lowered
abbrev pub any_change : List Passage → Bool
any_change [] = false
any_change (p ∷ ps) = is_change p.edit || any_change ps

-- ---- why no message is read

-- Nothing can be read of this before more comes: not even a header is there, or the message lacks a part.
abbrev pub AwaitsMore : List InterfaceRow → Mode → Side → Store (Unit {0}) → Queue → Type 0
AwaitsMore table mode side objects q =
    (length q.bytes < 8)
    ⊎ ((mode ≡ Log) × IsUnknown table objects side (sender_of q.bytes) (opcode_of q.bytes) × LacksPart [] q)
    ⊎ ((object : Object (Unit {0})) × (row : MessageRow) × IsKnown table objects side (sender_of q.bytes) (opcode_of q.bytes) object row
    × LacksPart row.signature q)

-- The message at the front is malformed: it is one of an object that is not known, which only a log goes past; or its header says a
-- length below its own; or its arguments cannot be read.
abbrev pub IsMalformed : List InterfaceRow → Mode → Side → Store (Unit {0}) → Queue → Type 0
IsMalformed table mode side objects q =
    (8 ≤ length q.bytes)
    × ((IsUnknown table objects side (sender_of q.bytes) (opcode_of q.bytes) × ((mode ≡ HandOn) ⊎ (length_of q.bytes < 8)))
    ⊎ ((object : Object (Unit {0})) × (row : MessageRow) × IsKnown table objects side (sender_of q.bytes) (opcode_of q.bytes) object row
    × RefusesMessage q.bytes row.signature q.tokens errors.Malformed))

-- The message at the front is read, and told by a line; but its objects cannot be noted.
pub record RefusesObjects (table : List InterfaceRow) (mode : Mode) (side : Side) (heard : Bool) (objects : Store (Unit {0})) (q : Queue) (f : Fault) (line : List ℕ)
    (objects' : Store (Unit {0})) : Type 0 where
  pub object : Object (Unit {0})
  pub row : MessageRow
  pub message : WireMessage
  pub is_known : IsKnown table objects side message.sender message.opcode object row
  pub reads : ReadsMessage q.bytes row.signature q.tokens message
  pub edits : EditsMessage table mode side object.interface message edit.Nothing
  pub text : line ≡ message_line table objects side object.interface row message edit.Nothing
  pub noted : NotesObjects table (unknown_interfaces mode) side (deletions heard) object row message objects (Some f) objects'

-- Why a side is no longer read, of what was received from it; the lines that are added before that one, and the objects after it. A
-- message has fewer than 65536 bytes: one that awaits more where as many were received is there to its end, and lacks a descriptor.
abbrev pub Stops : List InterfaceRow → Mode → Side → Bool → Store (Unit {0}) → Queue → Fault → List (List ℕ) → Store (Unit {0}) → Type 0
Stops table mode side heard objects q f lines objects' =
    (IsMalformed table mode side objects q × (f ≡ fault.Malformed) × (lines ≡ []) × (objects' ≡ objects))
    ⊎ ((line : List ℕ) × RefusesObjects table mode side heard objects q f line objects' × (lines ≡ line ∷ []))
    ⊎ ((65536 ≤ length q.bytes) × AwaitsMore table mode side objects q × (f ≡ fault.MissingDescriptor) × (lines ≡ []) × (objects' ≡ objects))

-- ---- a call

-- Of a side that is read: the messages up to `rest` have their lines, and what goes on in their place is sent.
pub record Reads (table : List InterfaceRow) (mode : Mode) (side : Side) (heard : Bool) (objects : Store (Unit {0})) (q : Queue) (lines : List (List ℕ)) (changed : Bool)
    (sent : Queue) (objects' : Store (Unit {0})) (rest : Queue) : Type 0 where
  pub passages : List Passage
  pub passes : Passes table mode side heard objects q passages objects' rest
  pub lines_are : lines ≡ lines_of passages
  pub changed_is : changed ≡ any_change passages
  pub sent_is : sent ≡ all_sent passages

-- Of a side that is read until a fault comes: the messages before it have their lines, then the one whose objects cannot be noted,
-- if there is one, and a last line tells of the fault. What was received by then is handed on as it is, and what comes behind it too.
-- Tokens are received with the first byte: those behind what was received are all that were in the mailbox, or none.
pub record Ends (table : List InterfaceRow) (mode : Mode) (side : Side) (heard : Bool) (objects : Store (Unit {0})) (q mailbox : Queue) (lines : List (List ℕ)) (changed : Bool)
    (sent : Queue) (objects' : Store (Unit {0})) (rest : Queue) : Type 0 where
  pub passages : List Passage
  pub mid : Store (Unit {0})
  pub received : Queue
  pub behind : Queue
  pub reason : Fault
  pub last : List (List ℕ)
  pub handed : Queue
  pub passes : Passes table mode side heard objects q passages mid (joined received behind)
  pub tokens_first : (behind ≡ mailbox) ⊎ (behind.tokens ≡ [])
  pub stops : Stops table mode side heard mid received reason last objects'
  pub lines_are : lines ≡ lines_of passages ++ (last ++ fault_line side reason ∷ [])
  pub changed_is : changed ≡ any_change passages
  pub sent_is : sent ≡ joined (all_sent passages) handed
  pub as_it_is : joined handed rest ≡ joined received behind

-- Of a side that is not read: no line is added, and what came is handed on as it is.
pub record PassesBy (q : Queue) (lines : List (List ℕ)) (changed : Bool) (sent : Queue) (rest : Queue) : Type 0 where
  pub no_lines : lines ≡ []
  pub no_change : changed ≡ false
  pub as_it_is : joined sent rest ≡ q

-- What a side's messages do, from this queue of what is to be read, of which this much is in the mailbox, to that one: the lines that
-- they add, whether one is dropped or lowered, what is sent for them, and the objects after them.
abbrev pub Gains : List InterfaceRow → Mode → Side → Bool → Bool → Store (Unit {0}) → Queue → Queue → List (List ℕ) → Bool → Queue → Bool → Store (Unit {0}) → Queue → Type 0
Gains table mode side heard false objects q mailbox lines changed sent followed' objects' q' =
    PassesBy q lines changed sent q' × (followed' ≡ false) × (objects' ≡ objects)
Gains table mode side heard true objects q mailbox lines changed sent true objects' q' = Reads table mode side heard objects q lines changed sent objects' q'
Gains table mode side heard true objects q mailbox lines changed sent false objects' q' = Ends table mode side heard objects q mailbox lines changed sent objects' q'

-- The log has grown by these lines, and by no others; and what is to be sent by what goes on for them. In a log no announcement is
-- dropped or lowered.
pub record GrowsLog (table : List InterfaceRow) (side : Side) (before : Known) (q mailbox out : Queue) (after : Known) (q' mailbox' out' : Queue) : Type 0 where
  pub lines : List (List ℕ)
  pub changed : Bool
  pub sent : Queue
  pub log : after.log ≡ before.log ++ lines
  pub out_is : out' ≡ joined out sent
  pub changed_is : after.has_changed ≡ (before.has_changed || changed)
  pub gains : Gains table before.mode side (hears side before) (follows side before) before.objects q mailbox lines changed sent (follows side after) after.objects q'
  pub receives : (mailbox' ≡ mailbox) ⊎ (mailbox'.tokens ≡ [])
  pub mode : after.mode ≡ before.mode
  pub unchanged : before.mode ≡ Log → after.has_changed ≡ before.has_changed
  pub other : follows (other_side side) after ≡ follows (other_side side) before

-- Of what was received from the side nothing more can be done: it awaits more; or, if the side is not read, all is handed on.
abbrev pub IsDone : List InterfaceRow → Side → Known → Queue → Type 0
IsDone table side k received = MatchBool (follows side k) (AwaitsMore table k.mode side k.objects received) (received ≡ nothing)
