-- Which messages that arrived a client's session is to have together: a *run*. None of them but the last makes or ends an object, so of each
-- the sender and the row are known before the session reads it.
use Rattle.std.specs.Int.{w32, from_le_bytes}
use Rattle.std.specs.List.{list_any}
use Rattle.std.specs.Prelude.{ℕ, zero, suc, ◌+◌, ◌-◌, ◌==◌, ◌&&◌, not, List, [], length, take, drop, nat_le, nat_lt, Bool, false, if◌then◌else◌, Option, None, Some, is_some, slice_get, unwrap_or}
use Rattle.wl_wire.specs.declared.interface.InterfaceId.{InterfaceId}
use Rattle.wl_wire.specs.MessageRows.{creates, event_row}
use Rattle.wl_wire.specs.Parse.{fd_count, length_of, opcode_of, sender_of}
use Rattle.wl_wire.specs.Table.{InterfaceRow, MessageRow, anonymous_id}
use Rattle.wl_client.specs.ByNumber.{object_at}
use Rattle.wl_client.specs.ObjectId.{IdParts}
use Rattle.wl_client.specs.Objects.{info_of}
use Rattle.wl_flat.specs.declared.flat.FlatRun.{FlatRun}
use Rattle.wl_flat.specs.Kinds as kinds
use Rattle.wl_flat.specs.Flat.{count_number, interface_number}
use Rattle.wl_host_client.specs.declared.client.runs.Front.{Front}
use Rattle.wl_host_client.specs.Client.{ClientCore, bit_of}

-- ---- the message at the front

-- One that counts fewer bytes than its header has is no message. It takes all: what stands behind it has no meaning.
abbrev pub size_of : List ℕ → ℕ
size_of bytes = if nat_lt (length_of bytes) 8 then length bytes else length_of bytes

abbrev pub interface_in : Option IdParts → InterfaceId
interface_in None = anonymous_id
interface_in (Some id) = id.interface

-- the object is there, and the client has not destroyed it
abbrev pub is_alive : ClientCore → Option IdParts → Bool
is_alive core None = false
is_alive core (Some id) = is_some (info_of core.session id)

abbrev pub descriptors_of : Option MessageRow → ℕ
descriptors_of None = 0
descriptors_of (Some row) = fd_count row.signature

-- an event of this row neither makes an object nor ends one
abbrev pub is_steady : Option MessageRow → Bool
is_steady None = false
is_steady (Some row) = not (creates row) && not row.is_destructor

abbrev pub brings_descriptors : MessageRow → Bool
brings_descriptors row = nat_lt 0 (fd_count row.signature)

abbrev pub events_of : Option InterfaceRow → List MessageRow
events_of None = []
events_of (Some row) = row.events

-- some event of the interface brings descriptors
abbrev pub may_bring : List InterfaceRow → InterfaceId → Bool
may_bring table interface = list_any brings_descriptors (events_of (slice_get table interface.0))

-- it is `wl_display.delete_id`, of object 1: the id
abbrev pub deleted_id : List ℕ → Option ℕ
deleted_id bytes =
    if (sender_of bytes == 1) && ((opcode_of bytes == 1) && ((length_of bytes == 12) && nat_le 12 (length bytes))) then
    Some (from_le_bytes w32 (take 4 (drop 8 bytes)))
    else None

abbrev pub front_from : ClientCore → List ℕ → Option IdParts → Option MessageRow → Front
front_from core bytes id row = record {
  sender = sender_of bytes;
  opcode = opcode_of bytes;
  size = size_of bytes;
  interface = interface_number (interface_in id).0;
  is_alive = is_alive core id;
  needed = descriptors_of row;
  is_steady = is_steady row && not (sender_of bytes == 1);
  may_bring = not (is_alive core id) && may_bring core.session.table (interface_in id);
  deleted = deleted_id bytes;
}

-- of an object that the session may have
abbrev pub front_of_sender : ClientCore → List ℕ → Option IdParts → Front
front_of_sender core bytes id = front_from core bytes id (event_row core.session.table (interface_in id) (opcode_of bytes))

-- the message at the front; `None` if it is not there to its end
unfoldable pub front_of : ClientCore → List ℕ → Option Front
front_of core bytes =
    if nat_le 8 (length bytes) && nat_le (size_of bytes) (length bytes) then
    Some (front_of_sender core bytes (object_at core.session (sender_of bytes)))
    else None

-- ---- the run

-- so many bytes and descriptors, of which nothing is to be known
abbrev pub plain_run : ℕ → ℕ → FlatRun
plain_run size used = record {
  bytes = count_number size;
  descriptors = count_number used;
  skipped = 0;
  kind = kinds.plain_run;
  sender = 0;
  interface = 0;
  opcode = 0;
  size = 0;
  needed = 0;
  may_bring = 0;
  number = 0;
}

-- so many bytes and descriptors, and this is to be known of that message, which the session is to have or not
abbrev pub run_with : ℕ → Front → ℕ → ℕ → ℕ → FlatRun
run_with kind f size used skipped = record {
  bytes = count_number size;
  descriptors = count_number used;
  skipped = count_number skipped;
  kind = kind;
  sender = f.sender;
  interface = f.interface;
  opcode = f.opcode;
  size = count_number f.size;
  needed = count_number f.needed;
  may_bring = bit_of f.may_bring;
  number = unwrap_or f.deleted 0;
}

-- the ids from here on are the server's, which no `delete_id` may name
abbrev pub is_of_server : ℕ → Bool
is_of_server number = nat_le 4278190080 number

-- The message of which too few descriptors came is not the run's. If no event would come of it, the session is not to have it.
abbrev pub lacking : Front → ℕ → ℕ → FlatRun
lacking f size used = if f.is_alive then run_with kinds.lacks_descriptors f size used 0 else run_with kinds.passed_over f size used f.size

abbrev pub deleting : Front → ℕ → ℕ → ℕ → FlatRun
deleting f number size used =
    if is_of_server number then run_with kinds.deletes_id f size used f.size else run_with kinds.deletes_id f (size + f.size) (used + f.needed) 0

-- how the run ends with this message, or before it; `None` if it goes on behind it
abbrev pub ended_whole : Front → Option ℕ → ℕ → ℕ → Option FlatRun
ended_whole f (Some number) size used = Some (deleting f number size used)
ended_whole f None size used =
    if not f.is_alive then Some (run_with kinds.passed_over f (size + f.size) (used + f.needed) 0)
    else if f.is_steady then None
    else Some (plain_run (size + f.size) (used + f.needed))

-- a session takes at most 28 descriptors at once; one message that brings more stands alone
abbrev pub is_over : ℕ → ℕ → ℕ → Bool
is_over size used needed = nat_lt 0 size && nat_lt 28 (used + needed)

-- so many descriptors came, and the messages before this one took so many bytes and descriptors
abbrev pub ended : Front → ℕ → ℕ → ℕ → Option FlatRun
ended f came size used =
    if nat_lt (came - used) f.needed then Some (lacking f size used)
    else if is_over size used f.needed then Some (plain_run size used)
    else ended_whole f f.deleted size used

abbrev pub step : (ℕ → ℕ → FlatRun) → ℕ → ℕ → ℕ → Option Front → FlatRun
step goes_on came size used None = plain_run size used
step goes_on came size used (Some f) = unwrap_or (ended f came size used) (goes_on (size + f.size) (used + f.needed))

-- the run of at most so many further messages, behind these bytes and descriptors
unfoldable pub run_behind : ℕ → ClientCore → List ℕ → ℕ → ℕ → ℕ → FlatRun
run_behind zero core bytes came size used = plain_run size used
run_behind (suc n) core bytes came size used =
    step (λ s u. run_behind n core bytes came s u) came size used (front_of core (drop size bytes))

-- no run has more messages
abbrev pub most_messages : ℕ
most_messages = 512

-- the run at the front of these bytes, with which so many descriptors came
abbrev pub next_run : ClientCore → List ℕ → ℕ → FlatRun
next_run core bytes came = run_behind most_messages core bytes came 0 0
