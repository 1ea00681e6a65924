-- What becomes of the first message of a link, and of what the relay knows, as the functions inside the relay say it.
use Rattle.std.specs.Prelude.{◌≡◌, ℕ, ◌+◌, ◌<◌, ◌≤◌, ◌⊎◌, ◌||◌, Bool, List, [], ◌∷◌, ◌++◌, length, Option, None, Some, if◌then◌else◌}
use Rattle.wl_wire.specs.declared.argument.ArgumentType.{ArgumentType}
use Rattle.wl_wire.specs.Message.{WireMessage}
use Rattle.wl_wire.specs.Parse.{IsThere, ReadsMessage, length_of}
use Rattle.wl_wire.specs.Table.{InterfaceRow, MessageRow}
use Rattle.wl_link.specs.declared.object.Object.{Object}
use Rattle.wl_link.specs.Exchange.{Queue, joined, nothing}
use Rattle.wl_link.specs.HandOn.{first_of}
use Rattle.wl_link.specs.declared.mailbox.Ending.TheVariants as ending
use Rattle.wl_link.specs.Link.{IsFresh, LinkState, after_first, with_incoming}
use Rattle.wl_link.specs.Mailbox.{MailboxState}
use Rattle.wl_link.specs.MailboxLink.{still_to_read, still_to_send}
use Rattle.wl_link.specs.Store.{Store}
use Rattle.wl_follow.specs.Fronts.{LacksPart}
use Rattle.wl_follow.specs.Objects.{NotesObjects}
use Rattle.wl_follow.specs.declared.side.Fault.{Fault}
use Rattle.wl_follow.specs.declared.side.Fault.TheVariants as fault
use Rattle.wl_follow.specs.declared.side.Side.{Side}
use Rattle.wl_relay.specs.Announcements.{going_on}
use Rattle.wl_relay.specs.Flow.{settings}
use Rattle.wl_relay.specs.Log.{AwaitsMore, Known, Passage, Passes, Stops, all_sent, any_change, deletions, follows, hears, lines_of, stopped, unknown_interfaces, unknown_line}
use Rattle.wl_relay.specs.declared.follow.Passed.{Passed}
use Rattle.wl_relay.specs.declared.follow.Passed.TheVariants as passed
use Rattle.wl_relay.specs.declared.follow.Received.{Received}
use Rattle.wl_relay.specs.declared.follow.Received.TheVariants as received
use Rattle.wl_relay.specs.declared.notes.Edit.{Edit}
use Rattle.wl_relay.specs.declared.notes.Edit.TheVariants as edit
use Rattle.wl_relay.specs.declared.mode.Mode.{Mode}
use Rattle.wl_relay.specs.declared.mode.Mode.TheVariants.{HandOn, Log}

-- ---- links

-- Nothing has happened on the link. It has no limit, and its mailbox takes and gives all.
abbrev pub IsNew : LinkState MailboxState → Type 0
IsNew l = IsFresh (record { arrived = nothing; ending = ending.Open; waiting = nothing; room = 18446744073709551615; send_fault = None }) None l

-- this is added to what is to be sent
abbrev pub Sends : LinkState MailboxState → Queue → LinkState MailboxState → Type 0
Sends to more to' = still_to_send to' ≡ joined (still_to_send to) more

-- what goes the other way is not touched
abbrev pub KeepsWayBack : LinkState MailboxState → LinkState MailboxState → LinkState MailboxState → LinkState MailboxState → Type 0
KeepsWayBack from to from' to' = (still_to_send from' ≡ still_to_send from) × (still_to_read to' ≡ still_to_read to)

-- and nothing is received
abbrev pub LeavesWayBack : LinkState MailboxState → LinkState MailboxState → LinkState MailboxState → LinkState MailboxState → Type 0
LeavesWayBack from to from' to' =
    (from'.transport ≡ from.transport) × (from'.outgoing ≡ from.outgoing) × (still_to_read to' ≡ still_to_read to)

-- nothing holds the link back that did not before, and nothing is sent into its mailbox
abbrev pub KeepsSettings : LinkState MailboxState → LinkState MailboxState → Type 0
KeepsSettings l l' = (settings l' ≡ settings l) × (l'.transport.waiting ≡ l.transport.waiting)

abbrev pub KeepBoth : LinkState MailboxState → LinkState MailboxState → LinkState MailboxState → LinkState MailboxState → Type 0
KeepBoth from to from' to' = KeepsSettings from from' × KeepsSettings to to'

-- the first message left the link, which had it whole, with its tokens
abbrev pub TakenOff : List ArgumentType → LinkState MailboxState → LinkState MailboxState → Type 0
TakenOff signature from from' =
    IsThere from.incoming.bytes signature from.incoming.tokens
    × (from' ≡ with_incoming from from.transport (after_first signature from.incoming))

-- It left the link as it is; or it did not, and lacks a part; or its header says a length below its own.
abbrev pub HandedAs : List ArgumentType → LinkState MailboxState → LinkState MailboxState → Passed → LinkState MailboxState → LinkState MailboxState → Type 0
HandedAs signature from to passed.One from' to' = TakenOff signature from from' × Sends to (first_of signature from.incoming) to'
HandedAs signature from to passed.Nothing from' to' = (from' ≡ from) × (to' ≡ to) × LacksPart signature from.incoming
HandedAs signature from to (passed.Fault f) from' to' =
    (from' ≡ from) × (to' ≡ to) × (f ≡ fault.Malformed) × (8 ≤ length from.incoming.bytes) × (length_of from.incoming.bytes < 8)

-- The first message, which can be read, left the link, and this goes on in its place; or it cannot be handed on.
abbrev pub PassedOn : List ArgumentType → Edit → LinkState MailboxState → LinkState MailboxState → Passed → LinkState MailboxState → LinkState MailboxState → Type 0
PassedOn signature edit.Nothing from to p from' to' = HandedAs signature from to p from' to'
PassedOn signature edit.Drop from to p from' to' = (p ≡ passed.One) × TakenOff signature from from' × (to' ≡ to)
PassedOn signature (edit.Lower version) from to p from' to' =
    (p ≡ passed.One) × TakenOff signature from from'
    × ((m : WireMessage) × ReadsMessage from.incoming.bytes signature from.incoming.tokens m × Sends to (going_on (edit.Lower version) signature from.incoming m) to')

-- All that was received left the link as it is.
abbrev pub HandsOnAll : LinkState MailboxState → LinkState MailboxState → LinkState MailboxState → LinkState MailboxState → Type 0
HandsOnAll from to from' to' = (from' ≡ with_incoming from from.transport nothing) × Sends to from.incoming to'

-- what a receive of a mailbox led to: something came, with all the tokens; or nothing is left there, or there is no room
abbrev pub ReceivedAs : LinkState MailboxState → Received → LinkState MailboxState → Type 0
ReceivedAs from received.Some from' =
    (length from'.transport.arrived.bytes < length from.transport.arrived.bytes) × (from'.transport.arrived.tokens ≡ [])
ReceivedAs from received.All from' = (from' ≡ from) × (from.transport.arrived.bytes ≡ [])
ReceivedAs from received.Full from' =
    (from'.incoming ≡ from.incoming) × (from'.transport ≡ from.transport) × (65536 ≤ length from.incoming.bytes)

-- ---- what the relay knows

-- the objects after a message with which this is done, or the fault for which they cannot be noted
abbrev pub NotesUnder : List InterfaceRow → Mode → Side → Bool → Object (Unit {0}) → MessageRow → WireMessage → Store (Unit {0}) → Edit → Option Fault → Store (Unit {0}) → Type 0
NotesUnder table mode side heard object row m objects edit.Nothing f objects' =
    NotesObjects table (unknown_interfaces mode) side (deletions heard) object row m objects f objects'
NotesUnder table mode side heard object row m objects _ f objects' = (f ≡ None) × (objects' ≡ objects)

-- a message that was not read has a line if it left the link
abbrev pub PassesUnknown : Side → ℕ → ℕ → Known → LinkState MailboxState → LinkState MailboxState → Passed → Known → LinkState MailboxState → LinkState MailboxState → Type 0
PassesUnknown side sender opcode k from to passed.One k' from' to' =
    (k.mode ≡ Log) × HandedAs [] from to passed.One from' to' × (k' ≡ record k { log = k.log ++ unknown_line side sender opcode ∷ [] })
PassesUnknown side sender opcode k from to passed.Nothing k' from' to' = (k.mode ≡ Log) × HandedAs [] from to passed.Nothing from' to' × (k' ≡ k)
PassesUnknown side sender opcode k from to (passed.Fault f) k' from' to' =
    (k' ≡ k) × (from' ≡ from) × (to' ≡ to) × (f ≡ fault.Malformed)
    × (((k.mode ≡ Log) × HandedAs [] from to (passed.Fault f) from' to') ⊎ (k.mode ≡ HandOn))

-- The messages up to `rest` have their lines, and what goes on in their place is to be sent. Both sides are read as before.
pub record ReadsOn (table : List InterfaceRow) (side : Side) (before : Known) (q out : Queue) (after : Known) (rest out' : Queue) : Type 0 where
  pub passages : List Passage
  pub log : after.log ≡ before.log ++ lines_of passages
  pub passes : Passes table before.mode side (hears side before) before.objects q passages after.objects rest
  pub out_is : out' ≡ joined out (all_sent passages)
  pub changed_is : after.has_changed ≡ (before.has_changed || any_change passages)
  pub mode : after.mode ≡ before.mode
  pub client : after.follows_client ≡ before.follows_client
  pub server : after.follows_server ≡ before.follows_server
  pub unchanged : before.mode ≡ Log → after.has_changed ≡ before.has_changed

-- what is known after a fault, maybe with the line of a message whose objects cannot be noted
abbrev pub StopsAt : List InterfaceRow → Side → Known → Queue → Fault → Known → Type 0
StopsAt table side k q f k' =
    (lines : List (List ℕ)) × (objects' : Store (Unit {0})) × Stops table k.mode side (hears side k) k.objects q f lines objects'
    × (k' ≡ record k { log = k.log ++ lines; objects = objects' })

-- The first message was read, and left the link; or nothing is done before more comes; or a fault came.
abbrev pub PassesAs : List InterfaceRow → Side → Known → LinkState MailboxState → LinkState MailboxState → Passed → Known → LinkState MailboxState → LinkState MailboxState → Type 0
PassesAs table side k from to passed.One k' from' to' =
    ReadsOn table side k (still_to_read from) (still_to_send to) k' (still_to_read from') (still_to_send to')
    × (length from'.incoming.bytes < length from.incoming.bytes)
PassesAs table side k from to passed.Nothing k' from' to' =
    (k' ≡ k) × (from' ≡ from) × (to' ≡ to) × AwaitsMore table k.mode side k.objects from.incoming
PassesAs table side k from to (passed.Fault f) k' from' to' = (from' ≡ from) × (to' ≡ to) × StopsAt table side k from.incoming f k'

-- the messages were read up to one that awaits more, or up to a fault
abbrev pub ReadsUpTo : List InterfaceRow → Side → Known → LinkState MailboxState → LinkState MailboxState → Option Fault → Known → LinkState MailboxState → LinkState MailboxState → Type 0
ReadsUpTo table side k from to None k' from' to' =
    ReadsOn table side k (still_to_read from) (still_to_send to) k' (still_to_read from') (still_to_send to')
    × AwaitsMore table k'.mode side k'.objects from'.incoming
ReadsUpTo table side k from to (Some f) k' from' to' =
    (mid : Known) × ReadsOn table side k (still_to_read from) (still_to_send to) mid (still_to_read from') (still_to_send to')
    × StopsAt table side mid from'.incoming f k'

-- a side that is read is read no longer
abbrev pub TellsFault : Side → Fault → Known → Known → Type 0
TellsFault side f k k' = k' ≡ (if follows side k then stopped side f k else k)

-- how many receives may still lead to something: one for each byte that is left, and one that finds no room, as long as the side is read
abbrev pub turns_left : Side → Known → LinkState MailboxState → ℕ
turns_left side k from =
    length from.transport.arrived.bytes + length from.transport.arrived.bytes + (if follows side k then 1 else 0)
