-- What the functions of a reading say to each other.
use Rattle.std.specs.Prelude.{◌≡◌, ◌⊎◌, ◌||◌, ◌≤◌, ℕ, length, List, [], Bool, true, false, if◌then◌else◌, Option, None, Some, Result, Ok, Err}
use Rattle.std.specs.Borrow.{Bor}
use Rattle.wl_wire.specs.declared.argument.ArgumentType.{ArgumentType}
use Rattle.wl_wire.specs.declared.argument.Token.{Token}
use Rattle.wl_wire.specs.declared.error.IoFault.{IoFault}
use Rattle.wl_wire.specs.declared.error.IoFault.TheVariants as fault
use Rattle.wl_wire.specs.declared.error.MessageParseError.{MessageParseError}
use Rattle.wl_wire.specs.declared.error.MessageParseError.TheVariants as parse
use Rattle.wl_wire.specs.declared.error.ProtocolError.{ProtocolError}
use Rattle.wl_wire.specs.declared.interface.MessageDesc.{MessageDesc}
use Rattle.wl_wire.specs.declared.message.Message.{Message}
use Rattle.wl_wire.specs.Message.{WireMessage}
use Rattle.wl_wire.specs.Parse.{IsThere, opcode_of, sender_of}
use Rattle.wl_wire.specs.Table.{InterfaceRow, MessageRow, message_row}
use Rattle.wl_link.specs.declared.object.Object.{Object}
use Rattle.wl_link.specs.Exchange.{Queue}
use Rattle.wl_link.specs.Identity.{Objects}
use Rattle.wl_link.specs.Link.{LinkState, ReadOne}
use Rattle.wl_link.specs.Puts.{lacks_memory}
use Rattle.wl_link.specs.Inside.ReaderLoops.{EndsSo, LeadsOn, ReceivedTo as PartReceived}
use Rattle.wl_link.specs.Store.{Store, held}
use Rattle.wl_client.specs.declared.display_event.DisplayMessage.{DisplayMessage}
use Rattle.wl_client.specs.declared.display_event.DisplayMessage.TheVariants as told
use Rattle.wl_client.specs.declared.error.EventError.{EventError}
use Rattle.wl_client.specs.declared.error.EventError.TheVariants as no_event
use Rattle.wl_client.specs.declared.error.WaylandError.{WaylandError}
use Rattle.wl_client.specs.declared.error.WaylandError.TheVariants.{Io, Protocol}
use Rattle.wl_client.specs.declared.event_fault.EventFault.TheVariants as wrong
use Rattle.wl_client.specs.declared.objects.Kept.{Kept}
use Rattle.wl_client.specs.declared.event_fault.EventFault.{EventFault}
use Rattle.wl_client.specs.declared.event.OpenEvent.{OpenEvent}
use Rattle.wl_client.specs.declared.message.NoEvent.{NoEvent}
use Rattle.wl_client.specs.declared.message.MessageEnd.{MessageEnd}
use Rattle.wl_client.specs.declared.message.MessageEnd.TheVariants as came
use Rattle.wl_client.specs.ObjectId.{IdParts}
use Rattle.wl_client.specs.Events.{Outcome, Whole, Wrong, DisplayEvent, Fails, Deletes, Unreadable, error_of}
use Rattle.wl_client.specs.Freeing.{freed_as, freed_asks, frees}
use Rattle.wl_client.specs.Handling.{Handling, Swallows, HandsOut, Breaks, front_row, handling_by, is_passed_over, row_in, signature_by}
use Rattle.wl_client.specs.Reading.{Lacks, ReadsAs, answered, by_fault, client, handed_by, reader_state_of, row_asks, with_error, with_link}
use Rattle.wl_client.specs.Requests.{SessionMessage, session_content}
use Rattle.wl_client.specs.Session.{SessionState, id_at, objects_of, with_objects}

-- what an event of the display tells, which the code keeps by reference
abbrev pub told_by : DisplayMessage → DisplayEvent
told_by (told.Fails code number text) = Fails code number text.now
told_by (told.Deletes number) = Deletes number
told_by told.Unreadable = Unreadable

-- this is the sender and the opcode of the header that waits
abbrev pub IsHeader : {T : Type 0} → LinkState T → ℕ × ℕ → Type 0
IsHeader link header =
    (8 ≤ length link.incoming.bytes) × (header.0 ≡ sender_of link.incoming.bytes) × (header.1 ≡ opcode_of link.incoming.bytes)

module _ {U : Type 0} where
  -- What becomes of an event whose arguments were gone through, and which event is open before and after it: this one is open
  -- from then on, or it is not handed out, or has a fault.
  abbrev pub HandledAs : WireMessage → Object (Kept U) → MessageRow → Outcome U → Result Bool EventFault → SessionMessage → Option OpenEvent → Option OpenEvent
      → Objects (Kept U) → Type 0
  HandledAs m receiver row (Whole c args) (Ok false) event before after objects =
      (receiver.value.client_destroyed ≡ true) × (after ≡ before) × (objects ≡ c.objects)
  HandledAs m receiver row (Whole c args) (Ok true) event before after objects =
      (receiver.value.client_destroyed ≡ false)
      × (event ≡ record { sender = id_at m.sender receiver; opcode = m.opcode; args = args })
      × (after ≡ Some (record { sender = id_at m.sender receiver; is_destructor = row.is_destructor; created = c.created }))
      × (objects ≡ c.objects)
  HandledAs m receiver row (Wrong w objects) (Err w') event before after objects' = (w' ≡ w) × (after ≡ before) × (objects' ≡ objects)
  HandledAs m receiver row _ _ event before after objects = ⊥

  -- what the read of the message at the front answers under the session's signatures
  abbrev pub ReadsIn : {T : Type 0} → Bool → List InterfaceRow → Store (Kept U) → LinkState T → Result WireMessage MessageParseError → LinkState T → Type 0
  ReadsIn passes table store before answer after = ReadOne (λ sender opcode found. found ≡ signature_by passes table store sender opcode) before answer after

  -- the signature of a message for which the table has no event
  abbrev pub unknown_signature : Bool → Option (Object (Kept U)) → Option (List ArgumentType)
  unknown_signature passes sender = if is_passed_over passes sender None then Some [] else None

  -- the message at the front, which is there whole, asks for memory before it is read
  abbrev pub EventAsks : List InterfaceRow → Store (Kept U) → Bool → Queue → Type 0
  EventAsks table store keeps incoming =
      (row : MessageRow) × (front_row table store incoming.bytes ≡ Some row)
      × ((row_asks (Some row) || freed_asks keeps (sender_of incoming.bytes) (opcode_of incoming.bytes)) ≡ true)
      × IsThere incoming.bytes row.signature incoming.tokens

  -- the message at the front was taken, with what the table says of it, or passed over; or it was not, and the link is as before
  abbrev pub TookWith : {T : Type 0} → Bool → List InterfaceRow → Store (Kept U) → Bool → LinkState T
      → Result (Option (Bor MessageDesc)) MessageParseError → WireMessage → LinkState T → Type 0
  TookWith passes table store keeps before (Ok (Some desc)) m after =
      ReadsIn passes table store before (Ok m) after
      × (row_in table (held store m.sender) m.opcode ≡ Some (message_row desc.now))
  TookWith passes table store keeps before (Ok None) m after =
      ReadsIn passes table store before (Ok m) after
      × (is_passed_over passes (held store m.sender) (row_in table (held store m.sender) m.opcode) ≡ true)
  TookWith passes table store keeps before (Err e) m after =
      (after ≡ before)
      × (ReadsIn passes table store before (Err e) before
      ⊎ ((e ≡ parse.OutOfMemory) × EventAsks table store keeps before.incoming))

-- what the handling of a message came to, with the event that it hands out
pub data MessageResult : Type 0 where
  GaveEvent : Message IdParts Token → MessageResult
  WentOn : MessageResult
  LacksMore : MessageResult
  Ended : NoEvent → MessageResult

abbrev pub message_result : MessageEnd → Message IdParts Token → MessageResult
message_result came.Event event = GaveEvent event
message_result came.Continues event = WentOn
message_result came.Lacks event = LacksMore
message_result (came.Ends e) event = Ended e

-- how a reading ended, with the event that it hands out
abbrev pub with_event : Result (Unit {0}) NoEvent → Message IdParts Token → Result (Message IdParts Token) NoEvent
with_event (Ok _) event = Ok event
with_event (Err e) event = Err e

-- the answer of a reading, and whether memory was refused in it
abbrev pub event_answer : Result (Message IdParts Token) NoEvent → Result SessionMessage EventError
event_answer (Ok m) = Ok (session_content m)
event_answer (Err end) = Err end.error

abbrev pub event_refused : Result (Message IdParts Token) NoEvent → Bool
event_refused (Ok m) = false
event_refused (Err end) = end.refused

-- this error is stored; or there was no memory for its texts, and that is stored
abbrev pub Stores : ProtocolError → NoEvent → Option WaylandError → Type 0
Stores e end after =
    (end.error ≡ no_event.Failed)
    × (((end.refused ≡ false) × (after ≡ Some (Protocol e)))
    ⊎ ((end.refused ≡ true) × (after ≡ Some (Io fault.OutOfMemory))))

-- what the handling of a message comes to, after this event of an object
abbrev pub EndsWith : List InterfaceRow → Result Bool EventFault → MessageEnd → Option WaylandError → Option WaylandError → Type 0
EndsWith table (Ok true) came.Event error error' = error' ≡ error
EndsWith table (Ok false) came.Continues error error' = error' ≡ error
EndsWith table (Err fault) (came.Ends end) error error' = Stores (error_of table fault) end error'
EndsWith table handled end error error' = ⊥

module _ {U : Type 0} where
  -- the handling of a message was carried out: what the objects are then, and the error and the open event before and then
  abbrev pub Carries : Handling U → MessageResult → Objects (Kept U) → Option WaylandError → Option WaylandError → Option OpenEvent → Option OpenEvent → Type 0
  Carries (Swallows o) WentOn objects error error' opened opened' = (objects ≡ o) × (error' ≡ error) × (opened' ≡ opened)
  Carries (HandsOut m event o) (GaveEvent e) objects error error' opened opened' =
      (session_content e ≡ m) × (objects ≡ o) × (error' ≡ error) × (opened' ≡ Some event)
  Carries (Breaks e o) (Ended end) objects error error' opened opened' = (objects ≡ o) × (opened' ≡ opened) × Stores e end error'
  Carries _ _ objects error error' opened opened' = ⊥

module _ {T U : Type 0} where
  -- the handling of a message was carried out
  abbrev pub HandledTo : SessionState T U → Handling U → MessageResult → SessionState T U → Type 0
  HandledTo before (Swallows o) WentOn after = after ≡ with_objects before o
  HandledTo before (HandsOut m event o) (GaveEvent e) after =
      (session_content e ≡ m) × (after ≡ record (with_objects before o) { open_event = Some event })
  HandledTo before (Breaks e o) (Ended end) after =
      (end.error ≡ no_event.Failed)
      × (((end.refused ≡ false) × (after ≡ with_error (with_objects before o) (Protocol e)))
      ⊎ ((end.refused ≡ true) × (after ≡ with_error (with_objects before o) (Io fault.OutOfMemory))))
  HandledTo before _ _ after = ⊥

  abbrev pub malformed : SessionState T U → Handling U
  malformed s = Breaks (error_of s.table wrong.Malformed) (objects_of s)

  -- no message was taken, for this reason
  abbrev pub NotTaken : SessionState T U → MessageParseError → Type 0
  NotTaken s e = ReadsAs s (Err e) s.link ⊎ ((e ≡ parse.OutOfMemory) × EventAsks s.table s.store s.keeps_freed s.link.incoming)

  -- no message was taken, and it came to this
  abbrev pub NotTakenTo : SessionState T U → MessageResult → SessionState T U → Type 0
  NotTakenTo before LacksMore after = Lacks before × (after ≡ before)
  NotTakenTo before (Ended end) after =
      (ReadsAs before (Err parse.Malformed) before.link × HandledTo before (malformed before) (Ended end) after)
      ⊎ ((end ≡ record { error = no_event.OutOfMemory; refused = true }) × NotTaken before parse.OutOfMemory × (after ≡ before))
  NotTakenTo before _ after = ⊥

  -- the session with the id of the object that leaves its number by this message, if there is one and the program has ids kept
  abbrev pub freed_session : SessionState T U → WireMessage → Handling U → SessionState T U
  freed_session s m h = frees s (freed_as s.passes_over s.table (objects_of s) m h)

  -- the message was handled so, and the id of the object that leaves its number by it is kept, if ids are
  abbrev pub HandledOf : SessionState T U → WireMessage → Handling U → MessageResult → SessionState T U → Type 0
  HandledOf before m h to after = HandledTo (freed_session before m h) h to after

  -- the message at the front was handled, if one is there
  abbrev pub HandlesMessage : SessionState T U → MessageResult → SessionState T U → Type 0
  HandlesMessage before to after =
      NotTakenTo before to after
      ⊎ ((m : WireMessage) × (link : LinkState T) × ReadsAs before (Ok m) link
      × HandledOf (with_link before link) m (handling_by before.passes_over before.table (objects_of before) m) to after)

  -- the message at the front was handled, and it came to this; or it was not taken, and nothing is changed
  abbrev pub TakenTo : SessionState T U → Result MessageEnd MessageParseError → Message IdParts Token → SessionState T U → Type 0
  TakenTo before (Ok end) event after = HandlesMessage before (message_result end event) after
  TakenTo before (Err e) event after = (after ≡ before) × NotTaken before e

  abbrev pub Live : SessionState T U → Type 0
  Live s = (s.error ≡ None) × (s.open_event ≡ None)

  module _ (sends : T → Queue → Result ℕ IoFault → T → Type 0) (receives : T → ℕ → Result Queue IoFault → T → Type 0) where
    -- a reading ends so, however many receives are left
    pub record EndsAs (before : SessionState T U) (answer : Result (Message IdParts Token) NoEvent) (after : SessionState T U) : Type 0 where
      pub lacked : Bool
      pub stopped : Option IoFault
      pub short : Bool
      pub ends : EndsSo sends receives client (reader_state_of before) (handed_by (event_answer answer)) lacked stopped short (reader_state_of after)
      pub answer_is : event_answer answer ≡ answered stopped (handed_by (event_answer answer))
      pub refused_is : event_refused answer ≡ lacked || short

    -- if a reading that begins now may end so, then one that began with `before` may
    abbrev pub ReadSoFar : SessionState T U → SessionState T U → Type 0
    ReadSoFar before now = LeadsOn sends receives client (reader_state_of before) [] false (reader_state_of now)

    -- each message that was there whole was handled, and it came to this
    abbrev pub Waited : SessionState T U → Option (Result (Message IdParts Token) NoEvent) → SessionState T U → Type 0
    Waited before None after = Live after × Lacks after × ReadSoFar before after
    Waited before (Some r) after = EndsAs before r after

    -- a receive was made, or there was no memory for it
    abbrev pub ReceivedTo : SessionState T U → Option NoEvent → SessionState T U → Type 0
    ReceivedTo before None after = PartReceived sends receives client (reader_state_of before) None (reader_state_of after) × Live after
    ReceivedTo before (Some end) after =
        (f : IoFault) × PartReceived sends receives client (reader_state_of before) (Some f) (reader_state_of after)
        × (end ≡ record { error = by_fault f; refused = lacks_memory (Err f) })
