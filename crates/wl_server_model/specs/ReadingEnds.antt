-- How a reading of a client ends: with an action of the message that its last turn found at the front, or for one of a few
-- reasons, two of which speak of that message, too.
use Rattle.std.specs.Prelude.{◌≡◌, ◌≢◌, ◌⊎◌, ℕ, List, [], ◌∷◌, ◌++◌, map, Bool, true, false, Option, None, Some, IsSome, is_some, Result, Ok, Err, MatchOption}
use Rattle.wl_wire.specs.declared.argument.Argument.{Argument}
use Rattle.wl_wire.specs.declared.argument.Argument.TheVariants as arg
use Rattle.wl_wire.specs.declared.argument.ArgumentType.{ArgumentType}
use Rattle.wl_wire.specs.declared.argument.Token.{Token}
use Rattle.wl_wire.specs.declared.error.IoFault.{IoFault}
use Rattle.wl_wire.specs.declared.error.IoFault.TheVariants as fault
use Rattle.wl_wire.specs.declared.error.MessageParseError.TheVariants as parse
use Rattle.wl_wire.specs.declared.interface.InterfaceId.{InterfaceId}
use Rattle.wl_wire.specs.MessageRows.{creates, fits, next_interface, request_row, rest_of}
use Rattle.wl_wire.specs.Message.{WireMessage}
use Rattle.wl_wire.specs.Parse.{opcode_of, sender_of}
use Rattle.wl_wire.specs.Table.{MessageRow, display_id, registry_id}
use Rattle.wl_link.specs.declared.object.Object.{Object}
use Rattle.wl_link.specs.Exchange.{Queue, Sending}
use Rattle.wl_link.specs.Link.{FilledBy, LinkState, ReceiveAsks, count_of, counted_answer}
use Rattle.wl_link.specs.Reader.{CarriesOut, FrontAsks, Given, Gives, Handled, Lacks, Leaves, ReaderState, Reads, ReadsAs, Received, Takes, Turn, Unread, Verdict, handled_in, with_link}
use Rattle.wl_link.specs.Store.{Store, held}
use Rattle.wl_server_client.specs.declared.error.ActionError.{ActionError}
use Rattle.wl_server_client.specs.declared.error.ActionError.TheVariants.{ActionOpen, Io}
use Rattle.wl_server_client.specs.declared.globals.KeptGlobal.{KeptGlobal}
use Rattle.wl_server_client.specs.declared.notes.DisconnectReason.TheVariants.{ConnectionClosed}
use Rattle.wl_server_client.specs.declared.objects.Kept.{Kept}
use Rattle.wl_server_client.specs.declared.reading.action.Action.{Action}
use Rattle.wl_server_client.specs.declared.reading.action.OpenAction.TheVariants as opened
use Rattle.wl_server_client.specs.declared.reading.action.Reading.{Reading}
use Rattle.wl_server_client.specs.declared.reading.violation.Violation.{Violation}
use Rattle.wl_server_model.specs.Backend.{BackendState}
use Rattle.wl_server_client.specs.Deeds.{Bind, Handed, Registry, Request, notes_in}
use Rattle.wl_server_client.specs.Events.{wire_argument}
use Rattle.wl_server_client.specs.Globals.{global_at}
use Rattle.wl_server_client.specs.Ids.{ClientParts, GlobalParts, IdParts}
use Rattle.wl_server_client.specs.Part.{Part, fresh_object, id_at, null_id}
use Rattle.wl_server_model.specs.PartStep.{World, around}
use Rattle.wl_server_client.specs.Reading.{Around, action_content, answered, may_bind, read_on, server}
use Rattle.wl_server_client.specs.Requests.{allows_null, kinds_after}
use Rattle.wl_server_model.specs.Server.{seen}
use Rattle.wl_server_client.specs.Telling.{Core, Told, end_deeds, part_of, reader_part}
use Rattle.wl_server_client.specs.Violations.{interface_of}

-- ---- the arguments of a request that is handed out

-- the new id among the arguments of a request, which has one at most
abbrev pub new_id_in : List (Argument IdParts Token) → Option IdParts
new_id_in [] = None
new_id_in (arg.NewId id ∷ args) = Some id
new_id_in (_ ∷ args) = new_id_in args

module _ {U : Type 0} (client : ClientParts) (store : Store (Kept U)) where
  -- the id is the null one, which may stand here; or that of the kept object of its number, whose interface fits the one
  -- that is asked for
  abbrev pub IsFit : Bool → InterfaceId → IdParts → Type 0
  IsFit null asked id =
      ((null ≡ true) × (id ≡ null_id client))
      ⊎ ((x : Object (Kept U)) × (held store id.number ≡ Some x) × (id ≡ id_at client id.number x) × (fits asked x.interface ≡ true))

  -- so is each object argument, by the types and the interfaces that the table has for the message
  abbrev pub ObjectsFit : List ArgumentType → List InterfaceId → List (Argument IdParts Token) → Type 0
  ObjectsFit kinds asked [] = Unit {0}
  ObjectsFit kinds asked (arg.Object id ∷ args) =
      IsFit (allows_null kinds) (next_interface asked) id × ObjectsFit (kinds_after kinds) (rest_of asked) args
  ObjectsFit kinds asked (_ ∷ args) = ObjectsFit (kinds_after kinds) asked args

  -- the client has the object of this id, of this version and of the interface that the table names for the message; it has no
  -- data yet
  abbrev pub HasMade : MessageRow → ℕ → IdParts → Type 0
  HasMade row version id =
      (id.client ≡ client) × (row.child_interface ≡ Some id.interface)
      × (held store id.number ≡ Some (fresh_object id.interface version id.serial None))

  -- A request of these arguments, to an object of this version, made an object exactly if it does by the table. Then the new id
  -- among the arguments is the id of the object.
  pub record MakesItsObject (row : MessageRow) (version : ℕ) (args : List (Argument IdParts Token)) (created : Option IdParts) : Type 0 where
    pub new_id : created ≡ new_id_in args
    pub by_table : is_some created ≡ creates row
    pub is_held : MatchOption created (Unit {0}) (HasMade row version)

-- ---- the last turn

-- the last turn of a reading, if it has any
abbrev pub last_turn : List Turn → Option Turn
last_turn [] = None
last_turn (t ∷ []) = Some t
last_turn (_ ∷ t ∷ turns) = last_turn (t ∷ turns)

-- the last turn was a receive that answered this fault; one without a byte answers `Pipe`
abbrev pub LastReceiveFailed : IoFault → List Turn → Type 0
LastReceiveFailed f turns = (r : Result Queue IoFault) × (last_turn turns ≡ Some (Received r)) × (counted_answer (count_of r) ≡ Err f)

module _ {U C : Type 0} where
  -- what the fault leaves of the client: it lives on, or it is killed in this reading
  abbrev pub LeavesClient : IoFault → Core U C → Type 0
  LeavesClient fault.WouldBlock end = (end.is_killed ≡ false) × (end.ended ≡ None) × (end.action ≡ None)
  LeavesClient fault.OutOfMemory end = (end.is_killed ≡ false) × (end.ended ≡ None) × (end.action ≡ None)
  LeavesClient f end = (end.is_killed ≡ true) × IsSome end.ended × (end.action ≡ None)

-- ---- a message that asks for nothing

module _ {U C : Type 0} where
  -- The message is to a display or a registry, and its arguments are none that a request to it has: a new number, or the name of
  -- a global, the name of an interface, a version and a new number.
  abbrev pub AsksNothing : Core U C → WireMessage → Type 0
  AsksNothing c m =
      (x : Object (Kept U)) × (held c.store m.sender ≡ Some x)
      × (((x.interface.0 ≡ display_id.0) × ((n : ℕ) → ¬ (m.args ≡ arg.NewId n ∷ [])))
      ⊎ ((x.interface.0 ≡ registry_id.0)
      × ((g version n : ℕ) (name : Option (List ℕ)) → ¬ (m.args ≡ arg.Uint g ∷ arg.Str name ∷ arg.Uint version ∷ arg.NewId n ∷ []))))

-- ---- the violation of the message at the front

module _ {T U C : Type 0} where
  -- the violation has the number and the opcode of the header at the front of what waits, and the interface of the object that
  -- has the number
  pub record IsOfFront (before : ReaderState T (Core U C)) (w : Violation) : Type 0 where
    pub sender_id : w.sender_id ≡ sender_of before.link.incoming.bytes
    pub opcode : w.opcode ≡ opcode_of before.link.incoming.bytes
    pub interface : w.interface ≡ interface_of (held before.core.store w.sender_id)

  -- it is kept how the client broke the protocol by the message at the front
  abbrev pub KeepsFront : ReaderState T (Core U C) → ReaderState T (Core U C) → Type 0
  KeepsFront before end = (w : Violation) × (end.core.violation ≡ Some w) × IsOfFront before w

  -- it is not kept that the client broke the protocol, if it was not before
  abbrev pub KeepsNone : ReaderState T (Core U C) → ReaderState T (Core U C) → Type 0
  KeepsNone start end = end.core.violation ≡ start.core.violation

  -- the client broke the protocol by the message at the front; or its connection is closed, and nothing is kept that was not before
  abbrev pub BrokeOrClosed : ReaderState T (Core U C) → ReaderState T (Core U C) → ReaderState T (Core U C) → Type 0
  BrokeOrClosed start before end = KeepsFront before end ⊎ (KeepsNone start end × (end.core.ended ≡ Some ConnectionClosed))

-- ---- how far the turns lead

module _ {T U G C : Type 0} (sends : T → Queue → Result ℕ IoFault → T → Type 0) (receives : T → ℕ → Result Queue IoFault → T → Type 0) (a : Around G C) where
  -- What a turn does: bytes were received; or the message at the front was taken, or its bytes were malformed, and what
  -- follows from it was carried out.
  abbrev pub TurnLeads : Turn → ReaderState T (Core U C) → ReaderState T (Core U C) → Type 0
  TurnLeads (Received r) before after =
      (link : LinkState T) × FilledBy receives before.link r (Ok tt) link × (after ≡ with_link before link)
  TurnLeads (Handled es) before after =
      (v : Verdict (Core U C) (Told U)) × (link : LinkState T) × (gave : List (Given (Told U))) × (refused : Bool)
      × Takes sends (server a) before v link × CarriesOut sends (server a) v link es gave refused after
  TurnLeads (Unread es) before after =
      (v : Verdict (Core U C) (Told U)) × (link : LinkState T) × (gave : List (Given (Told U))) × (refused : Bool)
      × Leaves sends (server a) before v link × CarriesOut sends (server a) v link es gave refused after

  -- the turns lead from one state to the other, one after another
  abbrev pub TurnsLead : List Turn → ReaderState T (Core U C) → ReaderState T (Core U C) → Type 0
  TurnsLead [] before after = after ≡ before
  TurnsLead (t ∷ turns) before after = (mid : ReaderState T (Core U C)) × TurnLeads t before mid × TurnsLead turns mid after

-- ---- the message of an action

module _ {T U G C : Type 0} (sends : T → Queue → Result ℕ IoFault → T → Type 0) (a : Around G C) where
  -- The message is a request to a kept object, and this is its action, open from now on: it has the message's opcode, and its
  -- arguments turned back to the wire are the message's. If it made an object, its number had none before.
  pub record IsItsRequest (sender : IdParts) (opcode : ℕ) (args : List (Argument IdParts Token)) (is_destructor : Bool) (created : Option IdParts)
      (before : ReaderState T (Core U C)) (m : WireMessage) (end : ReaderState T (Core U C)) : Type 0 where
    pub receiver : Object (Kept U)
    pub row : MessageRow
    pub was_held : held before.core.store m.sender ≡ Some receiver
    pub request : request_row a.table receiver.interface m.opcode ≡ Some row
    pub sender_is : sender ≡ id_at a.client m.sender receiver
    pub opcode_is : opcode ≡ m.opcode
    pub args_are : map wire_argument args ≡ m.args
    pub destructor : is_destructor ≡ row.is_destructor
    pub is_held : held end.core.store m.sender ≡ Some receiver
    pub objects_fit : ObjectsFit a.client end.core.store row.signature row.arg_interfaces args
    pub makes : MakesItsObject a.client end.core.store row receiver.version args created
    pub is_new : MatchOption created (Unit {0}) (λ id. held before.core.store id.number ≡ None)
    pub action : end.core.action ≡ Some (opened.Request sender is_destructor created)

  -- The message is a request to a registry of the client. Its arguments are the name of a global, the name of an interface, a
  -- version and a new number. The global that has the name may be bound so (`may_bind`). The action is its bind, open from now
  -- on, with a new object of that number, interface and version, which has no data yet. The number had none before.
  abbrev pub IsItsBind : GlobalParts → IdParts → ReaderState T (Core U C) → WireMessage → ReaderState T (Core U C) → Type 0
  IsItsBind global object before m end =
      (x : Object (Kept U)) × (interface : List ℕ) × (version : ℕ) × (kept : Object (KeptGlobal G))
      × (held before.core.store m.sender ≡ Some x) × (x.interface.0 ≡ registry_id.0)
      × (m.args ≡ arg.Uint global.name ∷ arg.Str (Some interface) ∷ arg.Uint version ∷ arg.NewId object.number ∷ [])
      × (held a.globals.store global.name ≡ Some kept) × (global ≡ global_at global.name kept)
      × (may_bind a before.core global.name (Some interface) version kept ≡ true)
      × (object.client ≡ a.client) × (object.interface ≡ kept.interface) × (held before.core.store object.number ≡ None)
      × (held end.core.store object.number ≡ Some (fresh_object kept.interface version object.serial None))
      × (end.core.action ≡ Some (opened.Bind object))

  -- Registries are handed out, and the message asks the client's display for one: it is a request that is not the first, and its one
  -- argument is a new number. The action is the new registry, open from now on: an object of that number, of the first version, which
  -- has no data yet. The number had none before.
  abbrev pub IsItsRegistry : IdParts → ReaderState T (Core U C) → WireMessage → ReaderState T (Core U C) → Type 0
  IsItsRegistry object before m end =
      (x : Object (Kept U)) × (held before.core.store m.sender ≡ Some x) × (x.interface.0 ≡ display_id.0)
      × (a.hands_registries ≡ true) × (m.opcode ≢ 0) × (m.args ≡ arg.NewId object.number ∷ [])
      × (object.client ≡ a.client) × (object.interface ≡ registry_id) × (held before.core.store object.number ≡ None)
      × (held end.core.store object.number ≡ Some (fresh_object registry_id 1 object.serial None))
      × (end.core.action ≡ Some (opened.Bind object))

  abbrev pub IsItsAction : Handed → ReaderState T (Core U C) → WireMessage → ReaderState T (Core U C) → Type 0
  IsItsAction (Request sender opcode args is_destructor created) before m end = IsItsRequest sender opcode args is_destructor created before m end
  IsItsAction (Bind global object) before m end = IsItsBind global object before m end
  IsItsAction (Registry object) before m end = IsItsRegistry object before m end

  -- a message was read at the front of what waits, and this is its action
  abbrev pub ComesOfFront : Handed → ReaderState T (Core U C) → ReaderState T (Core U C) → Type 0
  ComesOfFront h before end =
      (m : WireMessage) × (link : LinkState T) × ReadsAs sends (server a) before (Ok m) link × IsItsAction h before m end

  -- ---- what ends a reading at a turn

  -- the turn found at the front bytes that are no message, or one that asks for nothing
  abbrev pub FoundNoMessage : Turn → ReaderState T (Core U C) → Type 0
  FoundNoMessage (Received r) before = ⊥
  FoundNoMessage (Handled es) before =
      (m : WireMessage) × (link : LinkState T) × ReadsAs sends (server a) before (Ok m) link × AsksNothing before.core m
  FoundNoMessage (Unread es) before = ReadsAs sends (server a) before (Err parse.Malformed) before.link

  -- the turn took the message at the front
  abbrev pub TookMessage : Turn → ReaderState T (Core U C) → Type 0
  TookMessage (Handled es) before = (m : WireMessage) × (link : LinkState T) × ReadsAs sends (server a) before (Ok m) link
  TookMessage _ before = ⊥

module _ {T U G C : Type 0} (sends : T → Queue → Result ℕ IoFault → T → Type 0) (receives : T → ℕ → Result Queue IoFault → T → Type 0) (a : Around G C) where
  -- it holds of the last turn, and of the state to which the turns before it led
  abbrev pub OfLast : (Turn → ReaderState T (Core U C) → Type 0) → ReaderState T (Core U C) → List Turn → Type 0
  OfLast P start turns =
      (earlier : List Turn) × (t : Turn) × (before : ReaderState T (Core U C))
      × (turns ≡ earlier ++ t ∷ []) × TurnsLead sends receives a earlier start before × P t before

  -- why a reading answers this fault if no receive failed so, with so many receives left
  abbrev pub StopsItself : IoFault → ReaderState T (Core U C) → List Turn → Bool → ℕ → ReaderState T (Core U C) → Type 0
  StopsItself fault.WouldBlock start turns refused left end = (left ≡ 0) × Lacks sends (server a) end × KeepsNone start end
  StopsItself fault.OutOfMemory start turns refused left end =
      (refused ≡ true) × (FrontAsks sends (server a) end ⊎ (Lacks sends (server a) end × ReceiveAsks end.link)) × KeepsNone start end
  StopsItself fault.Proto start turns refused left end =
      OfLast (λ t before. FoundNoMessage sends a t before × KeepsFront before end) start turns × (end.core.ended ≡ Some ConnectionClosed)
  StopsItself fault.Pipe start turns refused left end =
      OfLast (λ t before. TookMessage sends a t before × BrokeOrClosed start before end) start turns × IsSome end.core.ended
  StopsItself _ start turns refused left end = ⊥

  -- The action comes of the message that the last turn found at the front: the turns before it led from the beginning to
  -- where that message was read.
  abbrev pub ComesOfLast : Handed → ReaderState T (Core U C) → List Turn → ReaderState T (Core U C) → Type 0
  ComesOfLast h start turns end =
      (earlier : List Turn) × (es : List Sending) × (before : ReaderState T (Core U C))
      × (turns ≡ earlier ++ Handled es ∷ []) × TurnsLead sends receives a earlier start before × ComesOfFront sends a h before end

  -- what a reading of a live client without an open action comes to: with these turns and this answer, it ends so
  abbrev pub ReadingEnds : ReaderState T (Core U C) → List Turn → Result Handed ActionError → Bool → ℕ → ReaderState T (Core U C) → Type 0
  ReadingEnds start turns (Ok h) refused left end =
      (end.core.is_killed ≡ false) × (end.core.ended ≡ None) × KeepsNone start end × ComesOfLast h start turns end
  ReadingEnds start turns (Err ActionOpen) refused left end = ⊥
  ReadingEnds start turns (Err (Io f)) refused left end =
      ((LastReceiveFailed f turns × KeepsNone start end) ⊎ StopsItself f start turns refused left end) × LeavesClient f end.core

-- ---- a reading of a server

module _ {T U G C : Type 0} (w : World T G C) where
  -- A reading of a client that was live and had no action open: it was a list of turns (`Reads`), whose answer is this one, and
  -- ended for a reason (`ReadingEnds`). `r'` has the receives that are left, and counts the messages handled. What is held of
  -- the client is what the last turn left. If it was killed, that one note was added, and no other.
  abbrev pub EndsForAReason : BackendState T U G C → ClientParts → Reading → Result Action ActionError → Reading → BackendState T U G C → Type 0
  EndsForAReason before id r answer r' after =
      (p : Part T U C) → (seen id before.server).part ≡ Some p → p.is_killed ≡ false → p.action ≡ None →
      (turns : List Turn) × (out : Gives (Told U)) × (end : ReaderState T (Core U C))
      × Reads w.sends (server (around w id before.server.offer)) w.receives r.turns_left (reader_part p) turns out end
      × (action_content answer ≡ answered out.stopped out.gave) × (after.refused ≡ out.refused)
      × ReadingEnds w.sends w.receives (around w id before.server.offer) (reader_part p) turns (action_content answer) after.refused out.left end
      × (r' ≡ read_on r out.left (handled_in turns))
      × (seen id after.server ≡ record { part = Some (part_of end); made = (seen id before.server).made ++ notes_in (end_deeds {U = U} end.core.ended) })
