-- What a client's session holds for its host, and what its calls do, in the words of its core.
use Rattle.std.specs.List.{count_by}
use Rattle.std.specs.Prelude.{◌≡◌, ℕ, ℤ, ◌+◌, ◌++◌, ◌≤◌, ◌^◌, ◌⊎◌, ◌==◌, ◌&&◌, not, List, [], ◌∷◌, codes, length, map, nat_le, Bool, true, false, if◌then◌else◌, Option, None, Some, is_some, unwrap_or, Result, Ok, Err, MatchBool, MatchOption}
use Rattle.wl_wire.specs.MessageRows.{event_row}
use Rattle.wl_wire.specs.Table.{name_of}
use Rattle.wl_wire.specs.declared.argument.Argument.{Argument}
use Rattle.wl_wire.specs.declared.argument.Token.{Token}
use Rattle.wl_wire.specs.declared.error.ProtocolError.{ProtocolError}
use Rattle.wl_wire.specs.declared.interface.ObjectInfo.{ObjectInfo}
use Rattle.wl_wire.specs.declared.message.Message.{Message}
use Rattle.wl_link.specs.Exchange.{Queue, nothing}
use Rattle.wl_link.specs.Link.{LinkState, LimitSet}
use Rattle.wl_link.specs.Mailbox.{MailboxState, MailboxReceives, MailboxSends}
use Rattle.wl_client.specs.declared.error.DestroyError.{DestroyError}
use Rattle.wl_client.specs.declared.error.DestroyError.TheVariants as destroy
use Rattle.wl_client.specs.declared.error.EventError.{EventError}
use Rattle.wl_client.specs.declared.error.FinishRefused.{FinishRefused}
use Rattle.wl_client.specs.declared.error.FlushError.{FlushError}
use Rattle.wl_client.specs.declared.error.InvalidId.{InvalidId}
use Rattle.wl_client.specs.declared.error.RequestError.{RequestError}
use Rattle.wl_client.specs.declared.event.OpenEvent.{OpenEvent}
use Rattle.wl_client.specs.declared.objects.Note.{Note}
use Rattle.wl_client.specs.declared.objects.Note.TheVariants.{Destroyed}
use Rattle.wl_client.specs.Finish.{Finishes, SessionFlushed}
use Rattle.wl_client.specs.Freeing.{kept_freed}
use Rattle.wl_client.specs.Lending.{client_over}
use Rattle.wl_client.specs.ObjectId.{IdParts}
use Rattle.wl_client.specs.Objects.{DataSet, DestroyedBy, ReclaimedBy, info_of, user_data_of}
use Rattle.wl_client.specs.Reading.{NextEvent}
use Rattle.wl_client.specs.Requests.{Requested, SessionMessage, Spec, session_content}
use Rattle.wl_client.specs.Session.{ClientState, SessionState, failed_by, null_parts}
use Rattle.wl_client.specs.Steps.{refused_destroy, refused_finish, refused_flush, refused_request}
use Rattle.wl_host_client.specs.declared.client.notes.DestroyedObject.{DestroyedObject}
use Rattle.wl_flat.specs.declared.flat.FlatArgument.{FlatArgument}
use Rattle.wl_flat.specs.declared.flat.FlatEvent.{FlatEvent}
use Rattle.wl_flat.specs.declared.flat.FlatObjectId.{FlatObjectId}
use Rattle.wl_flat.specs.declared.flat.FlatObjectInfo.{FlatObjectInfo}
use Rattle.wl_flat.specs.declared.flat.FlatRequest.{FlatRequest}
use Rattle.wl_flat.specs.declared.status.Status.{Status}
use Rattle.wl_flat.specs.declared.status.Status.TheVariants as status
use Rattle.wl_flat.specs.declared.telling.Telling.{Telling}
use Rattle.wl_client.specs.declared.error.WaylandError.{WaylandError}
use Rattle.wl_client.specs.declared.error.WaylandError.TheVariants.{Io, Protocol}
use Rattle.wl_wire.specs.declared.error.IoFault.TheVariants as fault
use Rattle.wl_flat.specs.Arguments.{all_bytes, arguments_of, descriptors_given, descriptors_out, flat_arguments, is_descriptor, queue_after_all}
use Rattle.wl_flat.specs.Arrivals.{Arrives}
use Rattle.wl_flat.specs.Status.{flattened, of_finish_event, of_flush, of_next_event, of_proxy_destroy, of_request}
use Rattle.wl_flat.specs.Descriptors.{Conserves, Descriptors, given_up, kept_in, last_held, put_in}
use Rattle.wl_flat.specs.Flat.{count_number, flat_proxy, interface_number, over_front, proxy_of}
use Rattle.wl_flat.specs.Nulls.{forbidden_null, is_refused, name_in, null_text, signature_of}
use Rattle.wl_flat.specs.Sending.{came_out, mailbox_after, queue_after}

-- the core: a session over a mailbox, with numbers as data
abbrev pub ClientCore : Type 0
ClientCore = ClientState MailboxState ℕ

-- What contracts see of a client's session: the core; the descriptors that arrived, and those of requests that were not sent;
-- the event that is kept for the next call, since the memory that was lent for it was too small; the objects that had data,
-- ended and were not handed out yet; whether an event with a null that the table forbids ends the session; what is told of its
-- messages, if they are told; and whether nothing was received or sent yet.
pub record HostedClient : Type 0 where
  pub core : ClientCore
  pub arrivals : Descriptors
  pub departures : Descriptors
  pub kept : Option SessionMessage
  pub notes : List DestroyedObject
  pub refuses_nulls : Bool
  pub telling : Option Telling
  pub is_new : Bool

-- the event, if it is kept
abbrev pub kept_of : Bool → Message IdParts Token → Option SessionMessage
kept_of false event = None
kept_of true event = Some (session_content event)

abbrev pub mailbox_of : HostedClient → MailboxState
mailbox_of s = s.core.session.link.transport

-- the mailbox is another one, and all else is as it was
abbrev pub with_mailbox : HostedClient → MailboxState → HostedClient
with_mailbox s mailbox = record s { core = client_over s.core mailbox }

-- ---- descriptors

-- how often a descriptor is kept
abbrev pub kept_by_client : ℤ → HostedClient → ℕ
kept_by_client d s = kept_in d s.arrivals + kept_in d s.departures

-- each descriptor that is kept before or goes in is kept after or comes out, once
abbrev pub ConservesClient : HostedClient → List ℤ → List ℤ → HostedClient → Type 0
ConservesClient = Conserves kept_by_client

-- how many descriptors the event that is kept brought
abbrev pub brought : Option SessionMessage → ℕ
brought None = 0
brought (Some event) = count_by is_descriptor event.args

-- How many arrivals an event may yet hand out: those that the event that is kept brought, those that wait in the core, and those
-- that it did not receive yet. They came last.
abbrev pub awaited : HostedClient → ℕ
awaited s = brought s.kept + (length s.core.session.link.incoming.tokens + length (mailbox_of s).arrived.tokens)

-- the core has dropped those that came before, with their events
abbrev pub without_dropped : HostedClient → HostedClient
without_dropped s = record s { arrivals = last_held (awaited s) s.arrivals }

-- No descriptor is left for the host to take back: none was passed over, and an event may yet hand out each arrival that is held.
abbrev pub HasNoneDropped : HostedClient → Type 0
HasNoneDropped s = (s.arrivals.passed ≡ []) × (s.departures.passed ≡ []) × (length s.arrivals.held ≤ awaited s)

-- once the session has failed, nobody takes them any more, but for those of an event that is kept
abbrev pub let_go : HostedClient → HostedClient
let_go s = record s {
  arrivals = if is_some s.kept then s.arrivals else given_up s.arrivals;
  departures = given_up s.departures;
}

abbrev pub has_failed : HostedClient → Bool
has_failed s = is_some s.core.session.error

-- The session ends by this error, unless it has one. No event is open or kept.
abbrev pub core_ended_by : ClientCore → WaylandError → ClientCore
core_ended_by core error = record { session = failed_by core.session error; refused = false }

abbrev pub ended_by : HostedClient → WaylandError → HostedClient
ended_by s error = record s { core = core_ended_by s.core error; kept = None }

-- The host ends the session by an error with this number of the system.
abbrev pub failed : HostedClient → ℤ → HostedClient
failed s number = ended_by s (Io (fault.Other number))

-- of a session that has failed nothing is held any more, unless an event is kept
abbrev pub HoldsNone : HostedClient → Type 0
HoldsNone s = has_failed s ≡ true → s.kept ≡ None → (s.arrivals.held ≡ []) × (s.departures.held ≡ [])

-- Of these that were passed over, on either side, the first comes out; or there is none.
abbrev pub HandsDropped : List ℤ → List ℤ → HostedClient → Result ℤ Status → HostedClient → Type 0
HandsDropped (d ∷ arrived) departed s answer after = (answer ≡ Ok d) × (after ≡ record s { arrivals = record s.arrivals { passed = arrived } })
HandsDropped [] (d ∷ departed) s answer after = (answer ≡ Ok d) × (after ≡ record s { departures = record s.departures { passed = departed } })
HandsDropped [] [] s answer after = (answer ≡ Err status.WouldBlock) × (after ≡ s)

-- what nobody takes was passed over
abbrev pub all_passed : HostedClient → HostedClient
all_passed s = let r = without_dropped s in if has_failed s then let_go r else r

-- the next descriptor that the host takes back
abbrev pub Drops : HostedClient → Result ℤ Status → HostedClient → Type 0
Drops before answer after = HandsDropped (all_passed before).arrivals.passed (all_passed before).departures.passed (all_passed before) answer after

-- what comes out with an answer
abbrev pub told : Result ℤ Status → List ℤ
told (Ok d) = d ∷ []
told (Err s) = []

-- ---- answers as statuses

-- the status of an answer, by that of its error
abbrev pub status_of : {A E : Type 0} → (E → Status) → Result A E → Status
status_of by (Ok u) = status.Ok
status_of by (Err e) = by e

abbrev pub flat_info : Option ObjectInfo → Option FlatObjectInfo
flat_info None = None
flat_info (Some info) = Some (record { number = info.id; interface = interface_number info.interface.0; version = info.version })

-- ---- the limits

abbrev pub limit_of : ℕ → ℕ → Option ℕ
limit_of has_limit size = if has_limit == 0 then None else Some size

-- the buffers may grow so far
abbrev pub SetsLimit : ClientCore → Option ℕ → ClientCore → Type 0
SetsLimit before limit after =
    (link : LinkState MailboxState) × LimitSet before.session.link limit link
    × (after ≡ record { session = record before.session { link = link }; refused = false })

-- ---- unknown senders

-- messages of unknown senders are passed over if the number is not 0
abbrev pub passing_over : HostedClient → ℕ → HostedClient
passing_over s passes = record s {
  core = record { session = record s.core.session { passes_over = not (passes == 0) }; refused = false };
}

-- ---- what the host received

-- bytes and descriptors arrived, or they are refused
abbrev pub Receives : HostedClient → List ℕ → List ℤ → Status → HostedClient → Type 0
Receives before bytes descriptors s after =
    (mailbox : MailboxState) × (arrivals : Descriptors) × Arrives (mailbox_of before) before.arrivals bytes descriptors s mailbox arrivals
    × (after ≡ record (with_mailbox before mailbox) { arrivals = arrivals })

-- the descriptors that go in by a call with this status
abbrev pub taken_in : Status → List ℤ → List ℤ
taken_in status.Ok descriptors = descriptors
taken_in _ descriptors = []

-- ---- the objects

-- the version of what was found; 0 if nothing was
abbrev pub version_in : Option ObjectInfo → ℕ
version_in None = 0
version_in (Some info) = info.version

-- the object gets the data
abbrev pub GivesData : ClientCore → IdParts → ℕ → Status → ClientCore → Type 0
GivesData before id u s after =
    (answer : Result (Unit {0}) InvalidId) × DataSet before.session id u answer after.session × (after.refused ≡ false)
    × (s ≡ status_of (λ _. status.InvalidId) answer)

-- the object leaves, if both sides have given it up
abbrev pub Reclaims : ClientCore → IdParts → Status → ClientCore → Type 0
Reclaims before id s after =
    (answer : Result (Unit {0}) InvalidId) × ReclaimedBy before.session id answer after.session × (after.refused ≡ false)
    × (s ≡ status_of (λ _. status.InvalidId) answer)

-- an object that ended, with the data that the core has of it
abbrev pub ended_object : SessionState MailboxState ℕ → Note → DestroyedObject
ended_object s (Destroyed id) = record { id = id; user_data = unwrap_or (user_data_of s id) 0 }

-- those of the notes that the core has
abbrev pub ended_objects : SessionState MailboxState ℕ → List DestroyedObject
ended_objects s = map (ended_object s) s.notes

abbrev pub without_notes : ClientCore → ClientCore
without_notes core = record { session = record core.session { notes = [] }; refused = false }

-- The core did a call and is so after it. The notes that it made are taken from it, and the host is told of these objects
-- behind the others.
abbrev pub with_notes_of : HostedClient → ClientCore → HostedClient
with_notes_of s core = record s {
  core = record core { session = record core.session { notes = [] } };
  notes = s.notes ++ ended_objects core.session;
}

-- there was no memory for a note, and nothing was done
abbrev pub LacksRoom : HostedClient → Status → HostedClient → Type 0
LacksRoom before s after = (s ≡ status.OutOfMemory) × (after ≡ before)

-- the object is destroyed on the client's side
abbrev pub Destroys : HostedClient → IdParts → Status → HostedClient → Type 0
Destroys before id s after =
    LacksRoom before s after
    ⊎ ((answer : Result (Unit {0}) DestroyError) × (core : ClientCore)
    × DestroyedBy before.core.session id answer core.session × (core.refused ≡ refused_destroy answer)
    × (s ≡ status_of of_proxy_destroy answer) × (after ≡ with_notes_of before core))

-- An object that the client has destroyed: its data are 0, it leaves if both sides have given it up, and no note tells of it.
abbrev pub LeavesUnnoted : ClientCore → IdParts → Status → ClientCore → Type 0
LeavesUnnoted destroyed id s after =
    (cleared left : ClientCore) × (reclaimed : Status) × GivesData destroyed id 0 s cleared × Reclaims cleared id reclaimed left
    × (after ≡ without_notes left)

-- there was no memory, or it is the display: the object stays
abbrev pub stays : Result (Unit {0}) DestroyError → IdParts → Bool
stays (Ok u) id = false
stays (Err destroy.InvalidId) id = id.number == 1
stays (Err destroy.OutOfMemory) id = true

-- The object is given up for good, also one that was destroyed before.
abbrev pub GivesUp : HostedClient → IdParts → Status → HostedClient → Type 0
GivesUp before id s after =
    (answer : Result (Unit {0}) DestroyError) × (core : ClientCore)
    × DestroyedBy before.core.session id answer core.session × (core.refused ≡ refused_destroy answer)
    × MatchBool (stays answer id) ((s ≡ status_of of_proxy_destroy answer) × (after.core ≡ core)) (LeavesUnnoted core id s after.core)
    × (after ≡ record before { core = after.core })

-- The first of these objects is handed out and leaves them; or there is none, and nothing is changed.
abbrev pub HandsNote : List DestroyedObject → HostedClient → FlatObjectId → ℕ → Status → HostedClient → FlatObjectId → ℕ → Type 0
HandsNote [] before id u s after id' u' = (s ≡ status.WouldBlock) × (after ≡ before) × (id' ≡ id) × (u' ≡ u)
HandsNote (ended ∷ notes) before id u s after id' u' =
    (s ≡ status.Ok) × (after ≡ record before { notes = notes }) × (id' ≡ flat_proxy ended.id) × (u' ≡ ended.user_data)

-- ---- the ids of objects that left their numbers

-- they are kept from now on, or no more
abbrev pub KeepsFreed : ClientCore → Bool → ClientCore → Type 0
KeepsFreed before keeps after = after ≡ record { session = kept_freed before.session keeps; refused = false }

-- Of these ids, which wait in the core, the first is handed out; or there is none, and nothing is changed.
abbrev pub HandsFreedId : List IdParts → HostedClient → FlatObjectId → Status → HostedClient → FlatObjectId → Type 0
HandsFreedId [] before id s after id' =
    (s ≡ status.WouldBlock) × (after ≡ record before { core = record before.core { refused = false } }) × (id' ≡ id)
HandsFreedId (first ∷ ids) before id s after id' =
    (s ≡ status.Ok) × (after ≡ record before { core = record { session = record before.core.session { freed = ids }; refused = false } })
    × (id' ≡ flat_proxy first)

-- ---- sending

-- what the host is to send: nothing once the session has failed
abbrev pub to_send : HostedClient → Queue
to_send s = if has_failed s then nothing else (mailbox_of s).waiting

-- so many bytes were sent, and the descriptors with the first of them
abbrev pub sent : HostedClient → ℕ → HostedClient
sent s count =
    if has_failed s then s else
    record (with_mailbox s (mailbox_after count (mailbox_of s))) { departures = queue_after count (mailbox_of s) s.departures }

-- these descriptors
abbrev pub sent_descriptors : HostedClient → ℕ → List ℤ
sent_descriptors s count = if has_failed s then [] else came_out count (mailbox_of s) s.departures

-- what waits is sent to the mailbox
abbrev pub Flushes : ClientCore → Status → ClientCore → Type 0
Flushes before s after =
    (answer : Result (Unit {0}) FlushError) × SessionFlushed MailboxSends before.session answer after.session × (after.refused ≡ refused_flush answer)
    × (s ≡ status_of of_flush answer)

-- ---- events

-- what the open event made; the null id if it made none
abbrev pub created_by : Option OpenEvent → IdParts
created_by None = null_parts
created_by (Some event) = unwrap_or event.created null_parts

-- the open event is finished
abbrev pub FinishesOpen : HostedClient → Option ℕ → Status → HostedClient → Type 0
FinishesOpen before u s after =
    (answer : Result (Unit {0}) (FinishRefused ℕ)) × (core : ClientCore)
    × Finishes before.core.session u answer core.session × (core.refused ≡ refused_finish answer)
    × (s ≡ status_of (λ refused. of_finish_event refused.error) answer) × (after ≡ with_notes_of before core)

-- an event that is kept was not handed out: none is open for the host
abbrev pub EndsEvent : HostedClient → Option ℕ → Status → HostedClient → Type 0
EndsEvent before u s after =
    MatchOption before.kept (LacksRoom before s after ⊎ FinishesOpen before u s after)
    (λ event. (s ≡ status.NotOpen) × (after ≡ before))

abbrev pub kept_if : Status → Bool → Result Bool Status
kept_if status.Ok kept = Ok kept
kept_if s kept = Err s

-- The open event is finished, with data for the object that it made. The answer says whether that object is there, and the client
-- has not destroyed it. If it has, no note tells of the data.
abbrev pub EndsEventWith : HostedClient → ℕ → Result Bool Status → HostedClient → Type 0
EndsEventWith before u result after =
    (s : Status) × EndsEvent before (Some u) s after
    × (result ≡ kept_if s (is_some (info_of after.core.session (created_by before.core.session.open_event))))

abbrev pub event_of : Result SessionMessage EventError → Option SessionMessage
event_of (Ok event) = Some event
event_of (Err e) = None

-- the next event is read, and kept
abbrev pub Reads : ClientCore → Status → Option SessionMessage → ClientCore → Type 0
Reads before s kept after =
    (answer : Result SessionMessage EventError)
    × NextEvent MailboxSends MailboxReceives before.session answer after.refused after.session
    × (s ≡ status_of of_next_event answer) × (kept ≡ event_of answer)

-- the event that is kept is there already, and nothing is read
abbrev pub ReadsUnlessKept : Option SessionMessage → ClientCore → Status → Option SessionMessage → ClientCore → Type 0
ReadsUnlessKept None before s kept after = Reads before s kept after
ReadsUnlessKept (Some event) before s kept after = (s ≡ status.Ok) × (kept ≡ Some event) × (after ≡ before)

-- ---- an event as it is handed out

abbrev pub Arguments : Type 0
Arguments = List (Argument IdParts Token)

abbrev pub bit_of : Bool → ℕ
bit_of true = 1
bit_of false = 0

-- the data of the object; 0 if it has none, or if the id names none
abbrev pub data_or_zero : ClientCore → IdParts → ℕ
data_or_zero core id = unwrap_or (user_data_of core.session id) 0

abbrev pub ends_sender : Option OpenEvent → Bool
ends_sender None = false
ends_sender (Some event) = event.is_destructor

-- the open event without its arguments
abbrev pub flat_event : ClientCore → SessionMessage → FlatEvent
flat_event core event = record {
  opcode = event.opcode;
  arguments = count_number (length event.args);
  is_destructor = bit_of (ends_sender core.session.open_event);
  bytes = count_number (length (all_bytes event.args));
  sender = flat_proxy event.sender;
  «data» = data_or_zero core event.sender;
  created = flat_proxy (created_by core.session.open_event);
  version = version_in (info_of core.session (created_by core.session.open_event));
  has_data = bit_of (is_some (user_data_of core.session event.sender));
  forbidden_null = forbidden_null flat_proxy (signature_of (event_row core.session.table event.sender.interface event.opcode)) event.args;
}

-- what the host lends for an event: the event itself, its arguments and their bytes
pub record LentForEvent : Type 0 where
  pub out : FlatEvent
  pub arguments : List FlatArgument
  pub bytes : List ℕ

-- there is room for the arguments and their bytes
abbrev pub fits : Arguments → List FlatArgument → List ℕ → Bool
fits args arguments bytes = nat_le (length args) (length arguments) && nat_le (length (all_bytes args)) (length bytes)

-- the event was written to what was lent
abbrev pub with_event : HostedClient → SessionMessage → LentForEvent → LentForEvent
with_event s event lent = record {
  out = flat_event s.core event;
  arguments = over_front (flat_arguments flat_proxy (data_or_zero s.core) s.arrivals 0 event.args) lent.arguments;
  bytes = over_front (all_bytes event.args) lent.bytes;
}

-- The event is handed out, with its descriptors. If there is no room for it, only what it is: it is kept.
abbrev pub HandsEvent : HostedClient → SessionMessage → LentForEvent → Status → List ℤ → HostedClient → LentForEvent → Type 0
HandsEvent s event lent answer came_out after lent' =
    MatchBool (fits event.args lent.arguments lent.bytes)
    ((answer ≡ status.Ok) × (came_out ≡ descriptors_out s.arrivals event.args) × (lent' ≡ with_event s event lent)
    × (after ≡ record s { arrivals = queue_after_all s.arrivals event.args; kept = None }))
    ((answer ≡ status.TooSmall) × (came_out ≡ []) × (lent' ≡ record lent { out = flat_event s.core event })
    × (after ≡ record s { kept = Some event }))

-- the place of the first argument that is null where the table allows no null, counted from 1; 0 if there is none
abbrev pub null_in : ClientCore → SessionMessage → ℕ
null_in core event = (flat_event core event).forbidden_null

-- the error for that null, as for any event that is wrong: code 0, object 0, no interface
abbrev pub null_error : ClientCore → SessionMessage → ProtocolError
null_error core event = record {
  code = 0;
  object_id = 0;
  object_interface = [];
  message =
      null_text (codes "event") (name_of core.session.table event.sender.interface.0)
      (name_in (event_row core.session.table event.sender.interface event.opcode)) (null_in core event);
}

-- this one, or that there was no memory for its text
abbrev pub IsNullError : ClientCore → SessionMessage → WaylandError → Type 0
IsNullError core event error = (error ≡ Protocol (null_error core event)) ⊎ (error ≡ Io fault.OutOfMemory)

-- The event is refused, and the session ends. What was lent is as it was.
abbrev pub RefusesEvent : HostedClient → SessionMessage → LentForEvent → Status → List ℤ → HostedClient → LentForEvent → Type 0
RefusesEvent s event lent answer came_out after lent' =
    (answer ≡ status.Failed) × (came_out ≡ []) × (lent' ≡ lent)
    × ((error : WaylandError) × IsNullError s.core event error × (after ≡ ended_by s error))

-- The event is handed out. If nulls that the table forbids are refused, it is handed out if it has none.
abbrev pub HandsAllowed : Bool → HostedClient → SessionMessage → LentForEvent → Status → List ℤ → HostedClient → LentForEvent → Type 0
HandsAllowed refuses s event lent answer came_out after lent' =
    MatchBool (is_refused refuses (null_in s.core event))
    (RefusesEvent s event lent answer came_out after lent')
    (HandsEvent s event lent answer came_out after lent')

-- The event that is kept, or else the next one, is handed out. If there is none, what was lent is as it was.
abbrev pub HandsNext : HostedClient → LentForEvent → Status → List ℤ → HostedClient → LentForEvent → Type 0
HandsNext before lent answer came_out after lent' =
    (s : Status) × (kept : Option SessionMessage) × (core : ClientCore) × ReadsUnlessKept before.kept before.core s kept core
    × MatchOption kept
    ((answer ≡ s) × (came_out ≡ []) × (lent' ≡ lent) × (after ≡ record before { core = core }))
    (λ event. HandsAllowed before.refuses_nulls (record before { core = core }) event lent answer came_out after lent')

-- ---- requests

-- the data that the request gives to the object that it makes
abbrev pub data_given_by : FlatRequest → Option ℕ
data_given_by request = if request.has_data == 0 then None else Some request.«data»

-- the interface and version that the host asks for that object
abbrev pub child_asked_by : FlatRequest → Option Spec
child_asked_by request = if request.has_child == 0 then None else Some (record { 0 = request.child_interface }, request.child_version)

abbrev pub request_of : FlatRequest → Arguments → SessionMessage
request_of request args = record { sender = proxy_of request.sender; opcode = request.opcode; args = args }

-- the descriptors that go in by a call that answered so
abbrev pub given_with : Result FlatObjectId Status → List ℤ → List ℤ
given_with (Ok id) descriptors = descriptors
given_with (Err s) descriptors = []

-- the core sends the request with these arguments
abbrev pub SendsRead : HostedClient → FlatRequest → List ℤ → Arguments → Result FlatObjectId Status → HostedClient → Type 0
SendsRead before request descriptors args result after =
    (answer : Result IdParts RequestError) × (core : ClientCore)
    × Requested MailboxSends before.core.session (request_of request args) (data_given_by request) (child_asked_by request) answer core.session
    × (core.refused ≡ refused_request answer) × (result ≡ flattened flat_proxy of_request answer)
    × (after ≡ with_notes_of (record before { departures = put_in before.departures (given_with result descriptors) }) core)

-- The arguments are read, and the core sends the request. Or they cannot be read, or there was no memory; then the core is not
-- called.
abbrev pub Sends : HostedClient → FlatRequest → List FlatArgument → List ℕ → Result FlatObjectId Status → HostedClient → Type 0
Sends before request arguments bytes result after =
    ((args : Arguments) × (arguments_of proxy_of bytes before.departures arguments ≡ Some args)
    × SendsRead before request (descriptors_given arguments) args result after)
    ⊎ ((result ≡ Err status.InvalidInput) × (2 ^ 16 ≤ request.opcode ⊎ (arguments_of proxy_of bytes before.departures arguments ≡ None)) × (after ≡ before))
    ⊎ ((result ≡ Err status.OutOfMemory) × (after ≡ before))
