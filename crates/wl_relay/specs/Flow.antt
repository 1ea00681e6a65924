-- What is on its way through the relay, in both directions, and that nothing of it is lost, added or moved.
use Rattle.std.specs.Prelude.{◌≡◌, ◌≢◌, ℕ, ◌≤◌, Bool, false, true, List, [], ◌∷◌, length, nat_le, take, Option, None, if◌then◌else◌}
use Rattle.wl_wire.specs.declared.error.IoFault.{IoFault}
use Rattle.wl_link.specs.declared.mailbox.Ending.{Ending}
use Rattle.wl_link.specs.declared.mailbox.Ending.TheVariants as ending
use Rattle.wl_link.specs.Exchange.{Queue, joined, nothing}
use Rattle.wl_link.specs.Link.{LinkState, with_transport}
use Rattle.wl_link.specs.Mailbox.{MailboxState, behind}
use Rattle.wl_link.specs.MailboxLink.{still_to_read, still_to_send}
use Rattle.wl_wire.specs.Table.{InterfaceRow}
use Rattle.wl_follow.specs.Sides.{other_side}
use Rattle.wl_follow.specs.Objects.{first_objects}
use Rattle.wl_follow.specs.declared.side.Side.{Side}
use Rattle.wl_follow.specs.declared.side.Side.TheVariants.{Client, Server}
use Rattle.wl_relay.specs.Log.{GrowsLog, IsDone, Known}

-- What may hold a link back: how far its buffers may grow, and what its mailbox answers beside what came and what waits.
pub record Settings : Type 0 where
  pub limit : Option ℕ
  pub ending : Ending
  pub room : ℕ
  pub send_fault : Option IoFault

abbrev pub settings : LinkState MailboxState → Settings
settings l = record { limit = l.limit; ending = l.transport.ending; room = l.transport.room; send_fault = l.transport.send_fault }

-- Nothing holds the link back: it has no limit, its side sends on, and its mailbox has room for all and refuses nothing.
abbrev pub IsOpen : LinkState MailboxState → Type 0
IsOpen l = settings l ≡ record { limit = None; ending = ending.Open; room = 18446744073709551615; send_fault = None }

-- What goes in one send: all of it, if it has at most 28 tokens; else one byte with the first 28.
abbrev pub one_send : Queue → Queue
one_send q = if nat_le (length q.tokens) 28 then q else record { bytes = take 1 q.bytes; tokens = take 28 q.tokens }

-- what goes from one link to another and was not taken out there: what waits to be sent, and then what was not handed on yet
abbrev pub in_flight : LinkState MailboxState → LinkState MailboxState → Queue
in_flight from to = joined (still_to_send to) (still_to_read from)

-- this arrives in the mailbox of the link
abbrev pub PutsIn : LinkState MailboxState → Queue → LinkState MailboxState → Type 0
PutsIn before came after = after ≡ with_transport before (record before.transport { arrived = joined before.transport.arrived came })

-- this is taken out of what the link is to send, and what came is not touched
abbrev pub GivesOut : LinkState MailboxState → Queue → LinkState MailboxState → Type 0
GivesOut before out after = (joined out (still_to_send after) ≡ still_to_send before) × (still_to_read after ≡ still_to_read before)

-- both directions have what they had
abbrev pub Kept : LinkState MailboxState → LinkState MailboxState → LinkState MailboxState → LinkState MailboxState → Type 0
Kept from to from' to' = (in_flight from' to' ≡ in_flight from to) × (in_flight to' from' ≡ in_flight to from)

-- as long as no announcement was dropped or lowered, nor before
abbrev pub KeptUnlessChanged : Bool → LinkState MailboxState → LinkState MailboxState → Bool → LinkState MailboxState → LinkState MailboxState → Type 0
KeptUnlessChanged changed from to changed' from' to' = changed' ≡ false → (changed ≡ false) × Kept from to from' to'

-- what contracts see of a relay
pub record RelayState : Type 0 where
  pub client : LinkState MailboxState
  pub server : LinkState MailboxState
  pub table : List InterfaceRow
  -- the objects, the log, and whether an announcement was dropped, or its version lowered
  pub known : Known

-- an announcement was dropped, or its version lowered
abbrev pub has_changed : RelayState → Bool
has_changed r = r.known.has_changed

-- what came from this side and was not taken out at the other one
abbrev pub flow_from : Side → RelayState → Queue
flow_from Client r = in_flight r.client r.server
flow_from Server r = in_flight r.server r.client

-- what came from this side and was not handed on yet
abbrev pub to_read : Side → RelayState → Queue
to_read Client r = still_to_read r.client
to_read Server r = still_to_read r.server

-- what is to be sent to this side
abbrev pub to_send : Side → RelayState → Queue
to_send Client r = still_to_send r.client
to_send Server r = still_to_send r.server

-- the part of it that was made ready: it goes out first
abbrev pub made_ready : Side → RelayState → Queue
made_ready Client r = r.client.transport.waiting
made_ready Server r = r.server.transport.waiting

-- the relay after something else was made ready for this side
abbrev pub with_ready : Side → Queue → RelayState → RelayState
with_ready Client q r = record r { client = with_transport r.client (record r.client.transport { waiting = q }) }
with_ready Server q r = record r { server = with_transport r.server (record r.server.transport { waiting = q }) }

-- what came from this side and was received, but not handed on
abbrev pub received : Side → RelayState → Queue
received Client r = r.client.incoming
received Server r = r.server.incoming

-- what came from this side and was not received: all bytes are, but tokens wait for the next byte
abbrev pub not_received : Side → RelayState → Queue
not_received Client r = r.client.transport.arrived
not_received Server r = r.server.transport.arrived

-- nothing holds back what goes to either side, or comes from it
abbrev pub AreOpen : RelayState → Type 0
AreOpen r = IsOpen r.client × IsOpen r.server

-- nothing else was made ready for either side
abbrev pub KeepsReady : RelayState → RelayState → Type 0
KeepsReady before after = (made_ready Client after ≡ made_ready Client before) × (made_ready Server after ≡ made_ready Server before)

-- A new relay has changed nothing, and nothing is on its way. It reads both sides, knows the display alone, and its log is empty.
pub record Begins (r : RelayState) : Type 0 where
  pub unchanged : has_changed r ≡ false
  pub from_client : flow_from Client r ≡ nothing
  pub from_server : flow_from Server r ≡ nothing
  pub log : r.known.log ≡ []
  pub objects : r.known.objects ≡ first_objects
  pub follows_client : r.known.follows_client ≡ true
  pub follows_server : r.known.follows_server ≡ true
  pub client_ready : made_ready Client r ≡ nothing
  pub server_ready : made_ready Server r ≡ nothing

-- This came from that side. It follows what is on its way, and the other direction has what it had; unless an announcement was
-- dropped or lowered.
abbrev pub Arrives : Side → Queue → RelayState → RelayState → Type 0
Arrives side came before after =
    has_changed after ≡ false
    → (has_changed before ≡ false) × (flow_from side after ≡ joined (flow_from side before) came)
    × (flow_from (other_side side) after ≡ flow_from (other_side side) before)

-- Nothing goes the other way: what is to be sent to this side, and what the other side has to say, stay as they are.
abbrev pub KeepsOtherWay : Side → RelayState → RelayState → Type 0
KeepsOtherWay side before after =
    (to_send side after ≡ to_send side before) × (to_read (other_side side) after ≡ to_read (other_side side) before)

-- This was taken out for the side, with at most 28 tokens. It was the first that was to be sent to it: what was made ready first; if
-- nothing was, exactly what one send takes. Nothing else is changed.
pub record TakesOut (side : Side) (out : Queue) (before after : RelayState) : Type 0 where
  pub first : joined out (to_send side after) ≡ to_send side before
  pub few : length out.tokens ≤ 28
  pub some : out.bytes ≢ []
  pub whole : made_ready side before ≡ nothing → out ≡ one_send (to_send side before)
  pub none_ready : made_ready side after ≡ nothing
  pub other_ready : made_ready (other_side side) after ≡ made_ready (other_side side) before
  pub known : after.known ≡ before.known
  pub table : after.table ≡ before.table
  pub still_to_read : to_read side after ≡ to_read side before
  pub other_sends : to_send (other_side side) after ≡ to_send (other_side side) before
  pub other_reads : to_read (other_side side) after ≡ to_read (other_side side) before
  pub flow : joined out (flow_from (other_side side) after) ≡ flow_from (other_side side) before
  pub other_flow : flow_from side after ≡ flow_from side before

-- nothing was taken out for the side, and nothing is lost
abbrev pub KeepsAll : Side → RelayState → RelayState → Type 0
KeepsAll side before after =
    (to_send Client after ≡ to_send Client before) × (to_send Server after ≡ to_send Server before)
    × (to_read Client after ≡ to_read Client before) × (to_read Server after ≡ to_read Server before)
    × (after.known ≡ before.known) × (after.table ≡ before.table)
    × (made_ready (other_side side) after ≡ made_ready (other_side side) before)

-- What is to be sent to the side next was made ready, unless something was, or nothing is to be sent: then nothing is changed.
-- Nothing is ready after it only if nothing is to be sent.
pub record MakesReady (side : Side) (before after : RelayState) : Type 0 where
  pub keeps : KeepsAll side before after
  pub earlier : (made_ready side before).bytes ≢ [] → after ≡ before
  pub none : (to_send side before).bytes ≡ [] → after ≡ before
  pub some : (made_ready side after).bytes ≡ [] → (to_send side before).bytes ≡ []
  pub whole : made_ready side before ≡ nothing → (to_send side before).bytes ≢ [] → made_ready side after ≡ one_send (to_send side before)

-- So many bytes of what was made ready for the side were sent, or all if they are fewer; and with the first of them its tokens.
abbrev pub Sent : Side → ℕ → RelayState → RelayState → Type 0
Sent side count before after = after ≡ with_ready side (behind count (made_ready side before)) before

-- the log has grown by the lines of what was read of what came from that side, and what goes on is to be sent to the other
abbrev pub LogsRead : Side → RelayState → RelayState → Type 0
LogsRead side before after =
    GrowsLog before.table side before.known (to_read side before) (not_received side before) (to_send (other_side side) before)
    after.known (to_read side after) (not_received side after) (to_send (other_side side) after)
    × (after.table ≡ before.table)

-- The log has grown by the lines of what came from that side, behind what came before and was not read yet, as one stream; and what
-- goes on is to be sent to the other side. What that one sent adds no line.
abbrev pub Logged : Side → Queue → RelayState → RelayState → Type 0
Logged side came before after =
    GrowsLog before.table side before.known (joined (to_read side before) came) (joined (not_received side before) came) (to_send (other_side side) before)
    after.known (to_read side after) (not_received side after) (to_send (other_side side) after)
    × (after.table ≡ before.table)

-- All bytes that came from the side were received, and no message that is there whole was left.
abbrev pub ReadsAll : Side → RelayState → Type 0
ReadsAll side r = ((not_received side r).bytes ≡ []) × IsDone r.table side r.known (received side r)

-- The lines were taken out. Nothing else is changed.
abbrev pub TakesLog : List (List ℕ) → RelayState → RelayState → Type 0
TakesLog lines before after = (lines ≡ before.known.log) × (after ≡ record before { known = record before.known { log = [] } })

-- The first line was taken out. Nothing else is changed.
abbrev pub TakesLine : List ℕ → RelayState → RelayState → Type 0
TakesLine line before after = before ≡ record after { known = record after.known { log = line ∷ after.known.log } }
