-- How a reading of a session ends: with an event of the message that its last turn found at the front, or for one of a few
-- reasons. If the server is to blame, that message tells of it, or breaks the protocol.
use Rattle.std.specs.List.{list_any}
use Rattle.std.specs.Prelude.{◌≡◌, ◌≢◌, ◌⊎◌, ℕ, List, [], ◌∷◌, ◌++◌, map, Bool, true, false, if◌then◌else◌, Option, None, Some, Result, Ok, Err}
use Rattle.wl_wire.specs.declared.argument.Argument.{Argument}
use Rattle.wl_wire.specs.declared.argument.Argument.TheVariants as arg
use Rattle.wl_wire.specs.declared.argument.Token.{Token}
use Rattle.wl_wire.specs.declared.error.IoFault.{IoFault}
use Rattle.wl_wire.specs.declared.error.IoFault.TheVariants as fault
use Rattle.wl_wire.specs.declared.error.MessageParseError.TheVariants as parse
use Rattle.wl_wire.specs.declared.error.ProtocolError.{ProtocolError}
use Rattle.wl_wire.specs.declared.interface.InterfaceId.{InterfaceId}
use Rattle.wl_wire.specs.Argument.{WireArgument, type_of}
use Rattle.wl_wire.specs.Message.{WireMessage}
use Rattle.wl_wire.specs.MessageRows.{event_row, fits, left_after, next_interface, rest_of}
use Rattle.wl_wire.specs.Table.{MessageRow, anonymous_id, is_new_id}
use Rattle.wl_link.specs.declared.object.Object.{Object}
use Rattle.wl_link.specs.Exchange.{Queue}
use Rattle.wl_link.specs.Identity.{Objects}
use Rattle.wl_link.specs.Link.{FilledBy, LinkState, ReceiveAsks, count_of, counted_answer}
use Rattle.wl_link.specs.Reader.{CarriesOut, FrontAsks, Given, Gives, Handled, Lacks, Leaves, ReaderState, Reads, ReadsAs, Received, Takes, Turn, Unread, Verdict, with_link}
use Rattle.wl_link.specs.Store.{Store, held}
use Rattle.wl_client.specs.declared.error.EventError.{EventError}
use Rattle.wl_client.specs.declared.error.EventError.TheVariants as no_event
use Rattle.wl_client.specs.declared.error.WaylandError.{WaylandError}
use Rattle.wl_client.specs.declared.error.WaylandError.TheVariants.{Io, Protocol}
use Rattle.wl_client.specs.declared.objects.Kept.{Kept}
use Rattle.wl_client.specs.declared.event_fault.EventFault.{EventFault}
use Rattle.wl_client.specs.declared.event_fault.EventFault.TheVariants as wrong
use Rattle.wl_client.specs.Events.{error_of, is_valid_new, told_error}
use Rattle.wl_client.specs.ObjectId.{IdParts}
use Rattle.wl_client.specs.Plain.{CanRead, EventIsOpen}
use Rattle.wl_client.specs.Reading.{answered, client, handed_by, objects_in, reader_state_of, receives_allowed}
use Rattle.wl_client.specs.Requests.{SessionMessage}
use Rattle.wl_client.specs.Session.{Core, SessionState, id_at, null_parts}

-- ---- the event of a message

-- an argument as it stands in a message, with a number for an id
abbrev pub on_the_wire : Argument IdParts Token → WireArgument
on_the_wire (arg.Int z) = arg.Int z
on_the_wire (arg.Uint n) = arg.Uint n
on_the_wire (arg.Fixed z) = arg.Fixed z
on_the_wire (arg.Str text) = arg.Str text
on_the_wire (arg.Object id) = arg.Object id.number
on_the_wire (arg.NewId id) = arg.NewId id.number
on_the_wire (arg.Array bytes) = arg.Array bytes
on_the_wire (arg.Fd token) = arg.Fd token

module _ {U : Type 0} where
  -- the id is the null one; or that of the object that its number has in this store, whose interface fits
  abbrev pub IsFit : Store (Kept U) → InterfaceId → IdParts → Type 0
  IsFit store asked id =
      (id ≡ null_parts)
      ⊎ ((x : Object (Kept U)) × (held store id.number ≡ Some x) × (id ≡ id_at id.number x) × (fits asked x.interface ≡ true))

  -- So is each object argument, by the interfaces that the table has for the event. The store is the first one up to the new id, and
  -- the second one behind it.
  abbrev pub ObjectsFit : Store (Kept U) → Store (Kept U) → List InterfaceId → List (Argument IdParts Token) → Type 0
  ObjectsFit before after asked [] = Unit {0}
  ObjectsFit before after asked (arg.Object id ∷ args) = IsFit before (next_interface asked) id × ObjectsFit before after (rest_of asked) args
  ObjectsFit before after asked (arg.NewId id ∷ args) = ObjectsFit after after asked args
  ObjectsFit before after asked (_ ∷ args) = ObjectsFit before after asked args

module _ {U : Type 0} where
  -- The message is to a kept object that is not the display and that the client had not destroyed, and this is its event, open
  -- from now on: it has the message's opcode, and its arguments turned back to the wire are the message's.
  pub record IsItsEvent (event : SessionMessage) (before : Core U) (m : WireMessage) (end : Core U) : Type 0 where
    pub receiver : Object (Kept U)
    pub row : MessageRow
    pub not_display : m.sender ≢ 1
    pub was_held : held before.store m.sender ≡ Some receiver
    pub live : receiver.value.client_destroyed ≡ false
    pub by_table : event_row before.table receiver.interface m.opcode ≡ Some row
    pub sender_is : event.sender ≡ id_at m.sender receiver
    pub opcode_is : event.opcode ≡ m.opcode
    pub args_are : map on_the_wire event.args ≡ m.args
    pub objects_fit : ObjectsFit before.store end.store row.arg_interfaces event.args
    pub opens : EventIsOpen before event end

-- ---- what is wrong with a message

-- one of the arguments is a new number
abbrev pub has_new : List WireArgument → Bool
has_new args = list_any (λ a. is_new_id (type_of a)) args

-- each object argument takes the next of the table's interfaces: those that are left behind these arguments
abbrev pub left_behind : List InterfaceId → List WireArgument → List InterfaceId
left_behind asked [] = asked
left_behind asked (a ∷ args) = left_behind (left_after a asked) args

-- the message is to the display, and neither an error with a text nor a `delete_id`
abbrev pub IsUnreadable : WireMessage → Type 0
IsUnreadable m =
    (m.sender ≡ 1)
    × ((n code : ℕ) (text : List ℕ) → m.opcode ≡ 0 → ¬ (m.args ≡ arg.Object n ∷ arg.Uint code ∷ arg.Str (Some text) ∷ []))
    × ((n : ℕ) → m.opcode ≡ 1 → ¬ (m.args ≡ arg.Uint n ∷ []))

module _ {U : Type 0} where
  -- the message is `wl_display.error`, and tells of this error
  abbrev pub TellsError : Core U → WireMessage → ProtocolError → Type 0
  TellsError c m e =
      (m.sender ≡ 1) × (m.opcode ≡ 0)
      × ((n code : ℕ) × (text : List ℕ) × (m.args ≡ arg.Object n ∷ arg.Uint code ∷ arg.Str (Some text) ∷ [])
      × (e ≡ told_error c.table c.store code n text))

  -- What is wrong with an argument. It is the number of an object, and there is none; or one whose interface does not fit what the
  -- table asks for there. Or it is a new number, and may not be used for an object of the interface that the table names; or the
  -- table names none, or it is the second. Behind a new number the objects are those at the end, among them the one that it made;
  -- else they are those before the message.
  abbrev pub IsWrongArgument : InterfaceId → Option InterfaceId → Bool → Objects (Kept U) → Objects (Kept U) → EventFault → WireArgument → Type 0
  IsWrongArgument asks makes behind_new before end wrong.Malformed a = ⊥
  IsWrongArgument asks makes behind_new before end (wrong.UnknownObject n) a =
      (a ≡ arg.Object n) × (n ≢ 0) × (held before.store n ≡ None) × (behind_new ≡ true → held end.store n ≡ None)
  IsWrongArgument asks makes behind_new before end (wrong.WrongInterface n asked i) a =
      (a ≡ arg.Object n) × (n ≢ 0) × (asked ≡ asks) × (fits asked i ≡ false)
      × ((x : Object (Kept U)) × (held (if behind_new then end.store else before.store) n ≡ Some x) × (x.interface ≡ i))
  IsWrongArgument asks makes behind_new before end (wrong.InvalidNewId n i) a =
      (a ≡ arg.NewId n)
      × (((behind_new ≡ false) × (makes ≡ Some i) × (is_valid_new before n ≡ false))
      ⊎ ((i ≡ anonymous_id) × ((makes ≡ None) ⊎ (behind_new ≡ true))))

  -- what is wrong with an argument that stands behind these in an event
  abbrev pub IsWrongBehind : MessageRow → Objects (Kept U) → Objects (Kept U) → List WireArgument → EventFault → WireArgument → Type 0
  IsWrongBehind row before end earlier w a =
      IsWrongArgument (next_interface (left_behind row.arg_interfaces earlier)) row.child_interface (has_new earlier) before end w a

  -- The message is to a kept object that is not the display, and the table has the event. This is wrong with the first of its
  -- arguments that is wrong.
  pub record HasWrongArgument (w : EventFault) (before : Core U) (m : WireMessage) (end : Core U) : Type 0 where
    pub receiver : Object (Kept U)
    pub row : MessageRow
    pub not_display : m.sender ≢ 1
    pub was_held : held before.store m.sender ≡ Some receiver
    pub by_table : event_row before.table receiver.interface m.opcode ≡ Some row
    pub earlier : List WireArgument
    pub argument : WireArgument
    pub later : List WireArgument
    pub args_are : m.args ≡ earlier ++ argument ∷ later
    pub is_wrong : IsWrongBehind row (objects_in before) (objects_in end) earlier w argument
    pub is_first : (others between : List WireArgument) (a : WireArgument) (fault : EventFault) → earlier ≡ others ++ a ∷ between
        → ¬ IsWrongBehind row (objects_in before) (objects_in end) others fault a

  -- what is wrong with a message of the display, or of another object
  abbrev pub IsWrong : EventFault → Core U → WireMessage → Core U → Type 0
  IsWrong wrong.Malformed before m end = IsUnreadable m
  IsWrong w before m end = HasWrongArgument w before m end

-- ---- the last turn

-- the last turn of a reading, if it has any
abbrev pub last_turn : List Turn → Option Turn
last_turn [] = None
last_turn (t ∷ []) = Some t
last_turn (_ ∷ t ∷ turns) = last_turn (t ∷ turns)

-- the last turn was a receive that answered this fault; one without a byte answers `Pipe`
abbrev pub LastReceiveFailed : IoFault → List Turn → Type 0
LastReceiveFailed f turns = (r : Result Queue IoFault) × (last_turn turns ≡ Some (Received r)) × (counted_answer (count_of r) ≡ Err f)

module _ {T U : Type 0} (sends : T → Queue → Result ℕ IoFault → T → Type 0) (receives : T → ℕ → Result Queue IoFault → T → Type 0) where
  -- What a turn does: bytes were received; or the message at the front was taken, or its bytes were malformed, and what
  -- follows from it was carried out.
  abbrev pub TurnLeads : Turn → ReaderState T (Core U) → ReaderState T (Core U) → Type 0
  TurnLeads (Received r) before after =
      (link : LinkState T) × FilledBy receives before.link r (Ok tt) link × (after ≡ with_link before link)
  TurnLeads (Handled es) before after =
      (v : Verdict (Core U) SessionMessage) × (link : LinkState T) × (gave : List (Given SessionMessage)) × (refused : Bool)
      × Takes sends client before v link × CarriesOut sends client v link es gave refused after
  TurnLeads (Unread es) before after =
      (v : Verdict (Core U) SessionMessage) × (link : LinkState T) × (gave : List (Given SessionMessage)) × (refused : Bool)
      × Leaves sends client before v link × CarriesOut sends client v link es gave refused after

  -- the turns lead from one state to the other, one after another
  abbrev pub TurnsLead : List Turn → ReaderState T (Core U) → ReaderState T (Core U) → Type 0
  TurnsLead [] before after = after ≡ before
  TurnsLead (t ∷ turns) before after = (mid : ReaderState T (Core U)) × TurnLeads t before mid × TurnsLead turns mid after

  -- it holds of the last turn, and of the state to which the turns before it led
  abbrev pub OfLast : (Turn → ReaderState T (Core U) → Type 0) → ReaderState T (Core U) → List Turn → Type 0
  OfLast P start turns =
      (earlier : List Turn) × (t : Turn) × (before : ReaderState T (Core U))
      × (turns ≡ earlier ++ t ∷ []) × TurnsLead earlier start before × P t before

  -- ---- what a turn found at the front

  -- the message of this event
  abbrev pub FoundEvent : SessionMessage → ReaderState T (Core U) → Turn → ReaderState T (Core U) → Type 0
  FoundEvent event end (Handled es) before =
      (m : WireMessage) × (link : LinkState T) × ReadsAs sends client before (Ok m) link × IsItsEvent event before.core m end.core
  FoundEvent event end _ before = ⊥

  -- bytes that are no message, a message that tells of the error, or one that is wrong
  abbrev pub FoundError : ProtocolError → ReaderState T (Core U) → Turn → ReaderState T (Core U) → Type 0
  FoundError e end (Received r) before = ⊥
  FoundError e end (Handled es) before =
      (m : WireMessage) × (link : LinkState T) × ReadsAs sends client before (Ok m) link
      × (TellsError before.core m e ⊎ ((w : EventFault) × IsWrong w before.core m end.core × (e ≡ error_of before.core.table w)))
  FoundError e end (Unread es) before = ReadsAs sends client before (Err parse.Malformed) before.link × (e ≡ error_of before.core.table wrong.Malformed)

  -- ---- how a reading ends

  -- why the session has this error now: it is the fault that the last receive answered, or the error that the last turn found; or
  -- there was no memory for the texts of such an error
  abbrev pub HasFailedBy : WaylandError → ReaderState T (Core U) → List Turn → Bool → ReaderState T (Core U) → Type 0
  HasFailedBy (Io fault.OutOfMemory) start turns refused end = (refused ≡ true) × ((e : ProtocolError) × OfLast (FoundError e end) start turns)
  HasFailedBy (Io fault.WouldBlock) start turns refused end = ⊥
  HasFailedBy (Io f) start turns refused end = LastReceiveFailed f turns
  HasFailedBy (Protocol e) start turns refused end = OfLast (FoundError e end) start turns

  -- what a reading comes to that begins without an error and without an open event: with these turns and this answer, it ends so
  abbrev pub ReadingEnds : ReaderState T (Core U) → List Turn → Result SessionMessage EventError → Bool → ℕ → ReaderState T (Core U) → Type 0
  ReadingEnds start turns (Ok event) refused left end = OfLast (FoundEvent event end) start turns
  ReadingEnds start turns (Err no_event.EventOpen) refused left end = ⊥
  ReadingEnds start turns (Err no_event.WouldBlock) refused left end =
      CanRead end.core × (LastReceiveFailed fault.WouldBlock turns ⊎ ((left ≡ 0) × Lacks sends client end))
  ReadingEnds start turns (Err no_event.OutOfMemory) refused left end =
      CanRead end.core
      × (LastReceiveFailed fault.OutOfMemory turns
      ⊎ ((refused ≡ true) × (FrontAsks sends client end ⊎ (Lacks sends client end × ReceiveAsks end.link))))
  ReadingEnds start turns (Err no_event.Failed) refused left end =
      (why : WaylandError) × (end.core.error ≡ Some why) × (end.core.open_event ≡ None) × HasFailedBy why start turns refused end

  -- A reading of a session without an error and without an open event: it was a list of turns (`Reads`), whose answer this is, and
  -- ended with it for a reason (`ReadingEnds`).
  abbrev pub EndsForAReason : SessionState T U → Result SessionMessage EventError → Bool → SessionState T U → Type 0
  EndsForAReason before answer refused after =
      before.error ≡ None → before.open_event ≡ None →
      (turns : List Turn) × (out : Gives SessionMessage)
      × Reads sends client receives receives_allowed (reader_state_of before) turns out (reader_state_of after)
      × (answer ≡ answered out.stopped out.gave) × (out.gave ≡ handed_by answer) × (refused ≡ out.refused)
      × ReadingEnds (reader_state_of before) turns answer refused out.left (reader_state_of after)
