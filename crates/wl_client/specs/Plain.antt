-- What a program finds after it ended an event, sent a request or read the next event: what has become of the objects, of the
-- open event and of the notes. It is said in the words of the look-ups.
--
-- The clause `plain` of `finish_event`, of `send_request` and of `next_event`, and of their variants, cites one of these. Another
-- clause beside it, `call`, says all that the call does, as a step. What stands here follows from that clause, and can be used
-- without it.
pub mod Calls
use Rattle.std.specs.Prelude.{◌≡◌, ◌≢◌, ◌⊎◌, ◌≤◌, ℕ, List, [], ◌∷◌, Bool, true, false, ◌==◌, ◌&&◌, if◌then◌else◌, Option, None, Some, IsSome, is_some, Result, Ok, Err, MatchBool, MatchOption}
use Rattle.wl_wire.specs.declared.argument.Argument.{Argument}
use Rattle.wl_wire.specs.declared.argument.Argument.TheVariants as arg
use Rattle.wl_wire.specs.declared.argument.Token.{Token}
use Rattle.wl_wire.specs.declared.error.IoFault.{IoFault}
use Rattle.wl_wire.specs.MessageRows.{creates, event_row, matches, request_row}
use Rattle.wl_wire.specs.Table.{MessageRow}
use Rattle.wl_link.specs.declared.object.Object.{Object}
use Rattle.wl_link.specs.Identity.{Objects}
use Rattle.wl_link.specs.Store.{Store, held}
use Rattle.wl_client.specs.declared.error.EventError.{EventError}
use Rattle.wl_client.specs.declared.error.EventError.TheVariants as no_event
use Rattle.wl_client.specs.declared.error.FinishError.{FinishError}
use Rattle.wl_client.specs.declared.error.FinishError.TheVariants as finish
use Rattle.wl_client.specs.declared.error.FinishRefused.{FinishRefused}
use Rattle.wl_client.specs.declared.error.RequestError.{RequestError}
use Rattle.wl_client.specs.declared.error.RequestError.TheVariants as refused
use Rattle.wl_client.specs.declared.error.WaylandError.TheVariants.{Io}
use Rattle.wl_client.specs.declared.event.OpenEvent.{OpenEvent}
use Rattle.wl_client.specs.declared.objects.Kept.{Kept}
use Rattle.wl_client.specs.declared.objects.Note.{Note}
use Rattle.wl_client.specs.ObjectId.{IdParts}
use Rattle.wl_client.specs.Objects.{info_of, user_data_of}
use Rattle.wl_client.specs.Reading.{objects_in}
use Rattle.wl_client.specs.Requests.{SessionMessage, Spec, child_of}
use Rattle.wl_client.specs.Session.{Core, SessionState, alive, core_of, fresh_object, id_at, named, noted, null_parts, with_id_deleted}

-- the ids have the same number and serial
abbrev pub same_object : IdParts → IdParts → Bool
same_object a b = (a.number == b.number) && (a.serial == b.serial)

-- the id is that of the object that an event made
abbrev pub is_made : Option IdParts → IdParts → Bool
is_made None id = false
is_made (Some made) id = same_object made id

-- the notes, with that of the object's end, if there is one and it has user data
abbrev pub with_end : {U : Type 0} → List Note → ℕ → Option (Object (Kept U)) → List Note
with_end notes n None = notes
with_end notes n (Some x) = noted notes x.value.user_data (id_at n x)

module _ {T U : Type 0} where
  -- the object that the id names
  abbrev pub object_of : SessionState T U → IdParts → Option (Object (Kept U))
  object_of s id = named s.store id

  -- ids of objects that leave their numbers are kept as before, and so are those that wait
  abbrev pub FreedStay : SessionState T U → SessionState T U → Type 0
  FreedStay before after = (after.keeps_freed ≡ before.keeps_freed) × (after.freed ≡ before.freed)

  -- so is whether messages of unknown senders are passed over
  abbrev pub SettingsStay : SessionState T U → SessionState T U → Type 0
  SettingsStay before after = (after.passes_over ≡ before.passes_over) × FreedStay before after

  -- ---- the end of an event

  -- The event is open no more. The object that it made has the data. Its sender, if the event ends it, is destroyed, and noted
  -- if it has data and the client had not destroyed it. Each other id names what it named.
  pub record EventIsEnded (before : SessionState T U) (event : OpenEvent) (u : Option U) (after : SessionState T U) : Type 0 where
    pub was_open : before.open_event ≡ Some event
    pub closed : after.open_event ≡ None
    pub fits : is_some u ≡ is_some event.created
    pub created : (id : IdParts) (d : U) → event.created ≡ Some id → u ≡ Some d → IsSome (object_of before id) → user_data_of after id ≡ Some d
    pub ended : event.is_destructor ≡ true → info_of after event.sender ≡ None
    pub notes : after.notes ≡ (if event.is_destructor then with_end before.notes event.sender.number (alive (object_of before event.sender)) else before.notes)
    pub others : (id : IdParts) → (event.is_destructor && same_object event.sender id) ≡ false → is_made event.created id ≡ false
        → object_of after id ≡ object_of before id
    pub error : after.error ≡ before.error
    pub table : after.table ≡ before.table
    pub link : after.link ≡ before.link
    pub settings : SettingsStay before after

  -- why an event was not ended
  abbrev pub NotEnded : SessionState T U → Option U → FinishError → Type 0
  NotEnded before u finish.NoOpenEvent = before.open_event ≡ None
  NotEnded before u finish.MissingObjectData = (event : OpenEvent) × (before.open_event ≡ Some event) × IsSome event.created × (u ≡ None)
  NotEnded before u finish.UnexpectedData = (event : OpenEvent) × (before.open_event ≡ Some event) × (event.created ≡ None) × IsSome u
  NotEnded before u finish.OutOfMemory =
      (event : OpenEvent) × (before.open_event ≡ Some event) × (event.is_destructor ≡ true) × (is_some u ≡ is_some event.created)
      × MatchOption (alive (object_of before event.sender)) ⊥ (λ x. IsSome x.value.user_data)

  -- The event that was open is ended. Or it is not, for this reason: the data come back, and nothing has changed.
  abbrev pub EndsEvent : SessionState T U → Option U → Result (Unit {0}) (FinishRefused U) → SessionState T U → Type 0
  EndsEvent before u (Ok _) after = (event : OpenEvent) × EventIsEnded before event u after
  EndsEvent before u (Err e) after = (e.user_data ≡ u) × (after ≡ before) × NotEnded before u e.error

  -- ---- a request

  -- The request makes an object of this interface and version, or none. The answer is its id, which named nothing before and
  -- names that object now, with the data that were given; or it is the null id.
  abbrev pub MadeAs : SessionState T U → Option Spec → Option U → IdParts → SessionState T U → Type 0
  MadeAs before None u id after = id ≡ null_parts
  MadeAs before (Some child) u id after =
      (object_of before id ≡ None) × (id.interface ≡ child.0)
      × ((d : U) × (u ≡ Some d) × (object_of after id ≡ Some (fresh_object child.0 child.1 id.serial (Some d))))

  -- The request was sent: its sender is an object that the client had not destroyed, and the table has the request, whose
  -- signature the arguments fit. A destructor destroys its sender, which is noted if it has data. Each other id names what it
  -- named, and the event that is open stays so. A fault of the write is the session's error.
  pub record RequestIsSent (before : SessionState T U) (m : SessionMessage) (u : Option U) (spec : Option Spec) (id : IdParts) (after : SessionState T U) : Type 0 where
    pub sender : Object (Kept U)
    pub row : MessageRow
    pub sent_by : alive (object_of before m.sender) ≡ Some sender
    pub request : request_row before.table sender.interface m.opcode ≡ Some row
    pub fits : matches row.signature m.args ≡ true
    pub made : MadeAs before (if creates row then child_of row sender.version spec else None) u id after
    pub ended : row.is_destructor ≡ true → info_of after m.sender ≡ None
    pub notes : after.notes ≡ (if row.is_destructor then noted before.notes sender.value.user_data (id_at m.sender.number sender) else before.notes)
    pub others : (other : IdParts) → (row.is_destructor && same_object m.sender other) ≡ false → same_object id other ≡ false
        → object_of after other ≡ object_of before other
    pub open_event : after.open_event ≡ before.open_event
    pub table : after.table ≡ before.table
    pub settings : SettingsStay before after
    pub error : (after.error ≡ before.error) ⊎ ((f : IoFault) × (after.error ≡ Some (Io f)))

  -- The request was sent. Or it was not, and nothing has changed; after a want of memory what waits in the link may have.
  abbrev pub SendsRequest : SessionState T U → SessionMessage → Option U → Option Spec → Result IdParts RequestError → SessionState T U → Type 0
  SendsRequest before m u spec (Ok id) after = RequestIsSent before m u spec id after
  SendsRequest before m u spec (Err refused.OutOfMemory) after = core_of after ≡ core_of before
  SendsRequest before m u spec (Err e) after = after ≡ before

-- ---- a reading

-- the new id among the arguments of an event, which has one at most
abbrev pub new_id_in : List (Argument IdParts Token) → Option IdParts
new_id_in [] = None
new_id_in (arg.NewId id ∷ args) = Some id
new_id_in (_ ∷ args) = new_id_in args

module _ {U : Type 0} where
  -- The object of this id is new: its number had no object before, but for one that the client had destroyed. It is of this
  -- version and of the interface that the table names, and has no data yet.
  abbrev pub IsMade : Store (Kept U) → MessageRow → ℕ → Store (Kept U) → IdParts → Type 0
  IsMade before row version after id =
      (alive (held before id.number) ≡ None) × (row.child_interface ≡ Some id.interface)
      × (held after id.number ≡ Some (fresh_object id.interface version id.serial None))

  -- The event is open from now on. Its sender is a kept object that is not the display and that the client has not destroyed, and
  -- the table has the event for the interface of that object. It has a new id among its arguments exactly if it makes an object by the table, and then
  -- that is the id of the object, which is new and of the sender's version.
  pub record EventIsOpen (before : Core U) (m : SessionMessage) (after : Core U) : Type 0 where
    pub sender : Object (Kept U)
    pub row : MessageRow
    pub not_display : m.sender.number ≢ 1
    pub holds : held after.store m.sender.number ≡ Some sender
    pub sender_is : m.sender ≡ id_at m.sender.number sender
    pub live : sender.value.client_destroyed ≡ false
    pub event : event_row after.table sender.interface m.opcode ≡ Some row
    pub opened : after.open_event ≡ Some (record { sender = m.sender; is_destructor = row.is_destructor; created = new_id_in m.args })
    pub makes : is_some (new_id_in m.args) ≡ creates row
    pub made : MatchOption (new_id_in m.args) (Unit {0}) (IsMade before.store row sender.version after.store)
    pub error : after.error ≡ None

  -- the session has no error, and no event is open
  abbrev pub CanRead : Core U → Type 0
  CanRead c = (c.error ≡ None) × (c.open_event ≡ None)

  -- the session has an error, and no event is open
  abbrev pub HasFailed : Core U → Type 0
  HasFailed c = IsSome c.error × (c.open_event ≡ None)

  -- The id names an object that the client has not destroyed, or its serial was given out. (A session that is not from `connect`
  -- on may keep a destroyed object with a serial that was not: a new object may take its number, and the same id.)
  abbrev pub IsOld : Objects (Kept U) → IdParts → Type 0
  IsOld objects id = IsSome (alive (named objects.store id)) ⊎ (id.serial ≤ objects.last_serial)

  -- The object that an id named is as it was, but that the server may have deleted its id. One that the client has destroyed may be
  -- gone.
  abbrev pub StaysAs : Option (Object (Kept U)) → Option (Object (Kept U)) → Type 0
  StaysAs None after = after ≡ None
  StaysAs (Some x) after = MatchBool x.value.client_destroyed ((after ≡ Some x) ⊎ (after ≡ None))
      ((after ≡ Some x) ⊎ (after ≡ Some (with_id_deleted x)))

  -- so it is of each id but those that were made since
  pub record IdsStay (before after : Objects (Kept U)) : Type 0 where
    pub serials : before.last_serial ≤ after.last_serial
    pub ids : (id : IdParts) → IsOld before id → StaysAs (named before.store id) (named after.store id)

  -- the table, the notes and the settings are as before, and each older id names what it named, or none if the client had
  -- destroyed that
  pub record KeepsRest (before after : Core U) : Type 0 where
    pub table : after.table ≡ before.table
    pub notes : after.notes ≡ before.notes
    pub passes_over : after.passes_over ≡ before.passes_over
    pub keeps_freed : after.keeps_freed ≡ before.keeps_freed
    pub ids : IdsStay (objects_in before) (objects_in after)

module _ {T U : Type 0} where
  -- An event is handed out, and open. Or there is none: the session had an error before or has one now, an event was open
  -- before, or nothing more can be read now.
  abbrev pub ReadsEvent : SessionState T U → Result SessionMessage EventError → SessionState T U → Type 0
  ReadsEvent before (Ok m) after =
      CanRead (core_of before) × EventIsOpen (core_of before) m (core_of after) × KeepsRest (core_of before) (core_of after)
  ReadsEvent before (Err no_event.Failed) after =
      (IsSome before.error × (after ≡ before)) ⊎ (CanRead (core_of before) × HasFailed (core_of after) × KeepsRest (core_of before) (core_of after))
  ReadsEvent before (Err no_event.EventOpen) after = (before.error ≡ None) × IsSome before.open_event × (after ≡ before)
  ReadsEvent before (Err no_event.WouldBlock) after = CanRead (core_of before) × CanRead (core_of after) × KeepsRest (core_of before) (core_of after)
  ReadsEvent before (Err no_event.OutOfMemory) after = CanRead (core_of before) × CanRead (core_of after) × KeepsRest (core_of before) (core_of after)
