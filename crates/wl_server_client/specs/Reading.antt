-- A client of the server as a reader of messages (`Reader` of `wl_link`): what each request does.
use Rattle.std.specs.Prelude.{◌≡◌, ℕ, ◌+◌, min, length, List, [], ◌∷◌, ◌++◌, map, Bool, false, not, ◌==◌, ◌&&◌, ◌||◌, nat_lt, nat_le, if◌then◌else◌, Option, None, Some, is_none, is_some, option_map, Result, Ok, Err, MatchOption, MatchBool}
use Rattle.std.specs.Option.{option_map_or}
use Rattle.std.specs.Str.{bytes_eq}
use Rattle.wl_wire.specs.declared.argument.Argument.TheVariants as arg
use Rattle.wl_wire.specs.declared.error.IoFault.{IoFault}
use Rattle.wl_wire.specs.declared.error.IoFault.TheVariants as fault
use Rattle.wl_wire.specs.Argument.{WireArgument}
use Rattle.wl_wire.specs.MessageRows.{creates, request_row}
use Rattle.wl_wire.specs.Message.{WireMessage}
use Rattle.wl_wire.specs.Table.{InterfaceRow, MessageRow, callback_id, display_id, name_of, registry_id}
use Rattle.wl_link.specs.declared.object.Object.{Object}
use Rattle.wl_link.specs.Exchange.{Queue}
use Rattle.wl_link.specs.Identity.{Id}
use Rattle.wl_link.specs.Puts.{Said}
use Rattle.wl_link.specs.Reader.{Given, Gives, Handled, HandedOut, Reader, Reads, Received, Turn, Unread, Unreadable, Verdict, handled_in}
use Rattle.wl_link.specs.Reader.{ReaderState}
use Rattle.wl_link.specs.Store.{Store, held, removed}
use Rattle.wl_server_client.specs.declared.reading.action.Action.{Action}
use Rattle.wl_server_client.specs.declared.reading.action.OpenAction.{OpenAction}
use Rattle.wl_server_client.specs.declared.reading.action.OpenAction.TheVariants as opened
use Rattle.wl_server_client.specs.declared.reading.action.Reading.{Reading}
use Rattle.wl_server_client.specs.declared.error.ActionError.{ActionError}
use Rattle.wl_server_client.specs.declared.error.ActionError.TheVariants.{Io, ActionOpen}
use Rattle.wl_server_client.specs.declared.objects.Kept.{Kept}
use Rattle.wl_server_client.specs.declared.reading.response.RequestFault.TheVariants as wrong
use Rattle.wl_server_client.specs.declared.reading.violation.MessageFault.TheVariants as message
use Rattle.wl_server_client.specs.declared.reading.violation.Violation.{Violation}
use Rattle.wl_server_client.specs.declared.globals.KeptGlobal.{KeptGlobal}
use Rattle.wl_server_client.specs.Deeds.{Acted, Came, Deed, Handed, Remembered, Sent, handed}
use Rattle.wl_server_client.specs.Deeds as deeds
use Rattle.wl_server_client.specs.Errors.{bind_text, fault_text, limit_text, new_id_text, posts, since_text}
use Rattle.wl_server_client.specs.Finish.{finishing}
use Rattle.wl_server_client.specs.Globals.{Globals, global_at, is_visible, shown}
use Rattle.wl_server_client.specs.Ids.{ClientParts, GlobalParts}
use Rattle.wl_server_client.specs.Limited.{limit_passed}
use Rattle.wl_server_client.specs.Part.{Part, display_of, id_at}
use Rattle.wl_server_client.specs.Requests.{Outcome, Whole, Wrong, convert, is_valid_new, made_id, start, with_made}
use Rattle.wl_server_client.specs.Telling.{Core, Did, Finish, Stops, Told, closed_down, deeds_of, deletions, done_message, introductions, objects_in, part_of, reader_part, tells, with_objects}
use Rattle.wl_server_client.specs.Violations.{Addressed, addressed, unread_fault, violation}

-- what a reading looks at beside its own client: the table, the client's id, the globals, what a client may see of them, the greatest
-- number at which a request may make an object, if there is a limit, and whether registries are handed out
pub record Around (G C : Type 0) : Type 0 where
  pub table : List InterfaceRow
  pub client : ClientParts
  pub globals : Globals G
  pub views : G → ClientParts → C → GlobalParts → Bool
  pub object_limit : Option ℕ
  pub hands_registries : Bool

-- ---- what the table says of a request

abbrev pub row_in : {U : Type 0} → List InterfaceRow → Option (Object (Kept U)) → ℕ → Option MessageRow
row_in table None opcode = None
row_in table (Some x) opcode = request_row table x.interface opcode

-- a request asks for memory before it is read: for the object that it makes, or for arguments beyond four
abbrev pub row_asks : Option MessageRow → Bool
row_asks None = false
row_asks (Some row) = creates row || nat_lt 4 (length row.signature)

-- how a malformed message breaks the protocol
abbrev pub unread : {U : Type 0} → List InterfaceRow → Store (Kept U) → Unreadable → Violation
unread table store u =
    let receiver = held store u.sender in
    violation (addressed u.sender receiver u.opcode) (unread_fault receiver (row_in table receiver u.opcode) u.size u.payload)

-- a request to an object as its violation names it
abbrev pub sent_to : {U : Type 0} → WireMessage → Object (Kept U) → Addressed
sent_to m receiver = addressed m.sender (Some receiver) m.opcode

-- ---- forms of a verdict

module _ {U C : Type 0} where
  -- a client that is killed is no longer read
  abbrev pub stops_if : Core U C → List (Told U)
  stops_if c = if c.is_killed then Stops fault.Pipe ∷ [] else []

  -- a request that the server answers by itself
  abbrev pub replies : Core U C → List Said → List (Deed U) → Verdict (Core U C) (Told U)
  replies c puts did = record (tells c puts) { events = λ d. map Did did ++ stops_if d }

  -- an action is handed out, and open from then on
  abbrev pub hands_out : Core U C → OpenAction → Handed → Verdict (Core U C) (Told U)
  hands_out c action h = record (tells (record c { action = Some action }) []) { events = λ d. Did (Acted h) ∷ [] }

  -- it is kept how the client broke the protocol
  abbrev pub breaking : Core U C → Violation → Core U C
  breaking c w = record c { violation = Some w }

  -- bytes that are no message: the connection is closed
  abbrev pub garbled : Core U C → Violation → Verdict (Core U C) (Told U)
  garbled c w = record (tells (closed_down (breaking c w)) []) { events = λ d. Stops fault.Proto ∷ [] }

  -- a fault of the transport kills the client, unless more may be received later
  abbrev pub faulted : Core U C → IoFault → Core U C
  faulted c fault.WouldBlock = c
  faulted c fault.OutOfMemory = c
  faulted c other = closed_down c

  -- it is live, and no action is open
  abbrev pub reads_on : Core U C → Bool
  reads_on c = not c.is_killed && is_none c.action

  -- the verdict if the open action of a live client is ended
  abbrev pub takes : ClientParts → Core U C → Finish U → Option (Verdict (Core U C) (Told U))
  takes client c u = if c.is_killed then None else finishing client c c.action u

module _ {U G C : Type 0} (a : Around G C) where
  -- the client broke the protocol: an error is posted on the display
  abbrev pub breaks : Core U C → Violation → ℕ → List ℕ → Verdict (Core U C) (Told U)
  breaks c w code text = record (posts a.table (breaking c w) (display_of a.client) code text) { events = λ d. Stops fault.Pipe ∷ [] }

  -- an object is made at the number, which is the argument at that place, if the client may use it
  abbrev pub made_at : Core U C → Addressed → ℕ → ℕ → Verdict (Core U C) (Told U) → Verdict (Core U C) (Told U)
  made_at c to place n v =
      if is_valid_new (objects_in c) n
      then v
      else breaks c (violation to (message.WrongArgument place (wrong.InvalidNewId n))) 0 (new_id_text n)

  -- ---- requests to a display

  abbrev pub new_at : Core U C → ℕ → Id
  new_at c n = record { number = n; serial = c.last_serial + 1 }

  -- the callback is made, and is gone again at once
  abbrev pub synced : Core U C → ℕ → Core U C
  synced c n = let made = with_made (objects_in c) n callback_id 1 in with_objects c (record made { store = removed made.store n })

  -- the client is told that the callback is done, and that its number is free again
  abbrev pub syncs : Core U C → ℕ → Verdict (Core U C) (Told U)
  syncs c n = replies (synced c n) (done_message (new_at c n) ∷ deletions n) []

  abbrev pub with_registry : Core U C → ℕ → Core U C
  with_registry c n =
      record (with_objects c (with_made (objects_in c) n registry_id 1)) { registries = c.registries ++ new_at c n ∷ [] }

  -- a new registry is told of each global that the client is shown, and from then on of each change
  abbrev pub registers : Core U C → ℕ → Verdict (Core U C) (Told U)
  registers c n =
      replies (with_registry c n) (introductions a.table (new_at c n) 0 (shown a.views a.globals a.client c.client_data))
      (Remembered (new_at c n) ∷ [])

  -- a new registry is handed out, and the server tells it of nothing, neither now nor later
  abbrev pub hands_registry : Core U C → ℕ → Verdict (Core U C) (Told U)
  hands_registry c n =
      let id = made_id a.client (objects_in c) n registry_id in
      hands_out (with_objects c (with_made (objects_in c) n registry_id 1)) (opened.Bind id) (deeds.Registry id)

  -- opcode 0 is `sync`, and 1 is `get_registry`
  abbrev pub display_request : Core U C → Addressed → ℕ → List WireArgument → Verdict (Core U C) (Told U)
  display_request c to opcode (arg.NewId n ∷ []) =
      made_at c to 0 n (if opcode == 0 then syncs c n else (if a.hands_registries then hands_registry c n else registers c n))
  display_request c to opcode _ = garbled c (violation to message.UnknownOpcode)

  -- ---- requests to a registry

  -- The global may be bound so: the interface's name is the right one, the version is neither 0 nor above the global's, and
  -- the client may see the global. It need not be enabled. Null is no name.
  abbrev pub may_bind : Core U C → ℕ → Option (List ℕ) → ℕ → Object (KeptGlobal G) → Bool
  may_bind c g None version x = false
  may_bind c g (Some name) version x =
      bytes_eq name (name_of a.table x.interface.0)
      && (nat_lt 0 version && (nat_le version x.version && is_visible a.views a.client c.client_data g x))

  -- a new object of the global's interface and the version asked for is bound to it
  abbrev pub binds : Core U C → ℕ → ℕ → ℕ → Object (KeptGlobal G) → Verdict (Core U C) (Told U)
  binds c g version n x =
      let id = made_id a.client (objects_in c) n x.interface in
      hands_out (with_objects c (with_made (objects_in c) n x.interface version)) (opened.Bind id) (deeds.Bind (global_at g x) id)

  -- it may not be bound so
  abbrev pub refuses_bind : Core U C → Addressed → ℕ → Option (List ℕ) → ℕ → Verdict (Core U C) (Told U)
  refuses_bind c to g name version =
      breaks c (violation to (message.RefusedBind g version (is_some name))) 0 (bind_text (option_map_or (λ t. t) name []) version g)

  abbrev pub binds_to : Core U C → Addressed → ℕ → Option (List ℕ) → ℕ → ℕ → Option (Object (KeptGlobal G)) → Verdict (Core U C) (Told U)
  binds_to c to g name version n None = refuses_bind c to g name version
  binds_to c to g name version n (Some x) =
      if may_bind c g name version x then made_at c to 3 n (binds c g version n x) else refuses_bind c to g name version

  -- its one request is `bind`
  abbrev pub registry_request : Core U C → Addressed → List WireArgument → Verdict (Core U C) (Told U)
  registry_request c to (arg.Uint g ∷ arg.Str name ∷ arg.Uint version ∷ arg.NewId n ∷ []) =
      binds_to c to g name version n (held a.globals.store g)
  registry_request c to _ = garbled c (violation to message.UnknownOpcode)

  -- ---- other requests

  -- a request whose arguments were gone through
  abbrev pub converted : Core U C → WireMessage → Object (Kept U) → MessageRow → Outcome U → Verdict (Core U C) (Told U)
  converted c m receiver row (Wrong place w objects) =
      breaks (with_objects c objects) (violation (sent_to m receiver) (message.WrongArgument place w)) 0
      (fault_text a.table receiver.interface row w)
  converted c m receiver row (Whole d args) =
      let id = id_at a.client m.sender receiver in
      hands_out (with_objects c d.objects) (opened.Request id row.is_destructor d.created)
      (deeds.Request id m.opcode args row.is_destructor d.created)

  -- the version of the object has the request
  abbrev pub other_request : Core U C → WireMessage → Object (Kept U) → MessageRow → Verdict (Core U C) (Told U)
  other_request c m receiver row =
      if nat_lt receiver.version row.since
      then breaks c (violation (sent_to m receiver) (message.SinceLater receiver.version row.since)) 1
      (since_text m.opcode receiver.version row.since (name_of a.table receiver.interface.0) m.sender)
      else converted c m receiver row (convert a.client receiver.version (start (objects_in c) row) [] m.args)

  -- ---- the reader

  -- a request goes by the interface of its object, whatever the object's number is
  abbrev pub by_interface : Core U C → WireMessage → Object (Kept U) → MessageRow → Verdict (Core U C) (Told U)
  by_interface c m receiver row =
      if receiver.interface.0 == display_id.0
      then display_request c (sent_to m receiver) m.opcode m.args
      else (if receiver.interface.0 == registry_id.0 then registry_request c (sent_to m receiver) m.args else other_request c m receiver row)

  -- a request that passed this limit is refused, with code 2 (`no_memory`); else it is this verdict
  abbrev pub unless_passed : Core U C → Addressed → Option ℕ → Verdict (Core U C) (Told U) → Verdict (Core U C) (Told U)
  unless_passed c to None v = v
  unless_passed c to (Some limit) v = breaks c (violation to (message.TooManyObjects limit)) 2 (limit_text limit)

  -- a request to a kept object; the limit is looked at before anything else of it
  abbrev pub request_to : Core U C → WireMessage → Object (Kept U) → MessageRow → Verdict (Core U C) (Told U)
  request_to c m receiver row =
      unless_passed c (sent_to m receiver) (limit_passed a.object_limit m.args) (by_interface c m receiver row)

  -- what a request does
  abbrev pub request : Core U C → WireMessage → Option (Object (Kept U)) → Option MessageRow → Verdict (Core U C) (Told U)
  request c m (Some receiver) (Some row) = request_to c m receiver row
  request c m receiver row =
      garbled c (violation (addressed m.sender receiver m.opcode) (unread_fault receiver row 0 []))

  -- a client of the server as a reader
  abbrev pub server : Reader (Core U C) (Told U) (Finish U)
  server = record {
    reads_on = reads_on;
    signature = λ c sender opcode. option_map (λ row. row.signature) (row_in a.table (held c.store sender) opcode);
    asks = λ c sender opcode. row_asks (row_in a.table (held c.store sender) opcode);
    handles = λ c m. request c m (held c.store m.sender) (row_in a.table (held c.store m.sender) m.opcode);
    malformed = λ c u. garbled c (unread a.table c.store u);
    takes = takes a.client;
    broken = λ c f. closed_down c;
    faulted = faulted;
  }

-- ---- a reading's answer

abbrev pub action_content : Result Action ActionError → Result Handed ActionError
action_content (Ok a) = Ok (handed a)
action_content (Err e) = Err e

module _ {U : Type 0} where
  -- the action that was handed out, or why nothing more is read
  abbrev pub action_in : List (Given (Told U)) → Result Handed ActionError
  action_in (HandedOut (Did (Acted h)) ∷ gave) = Ok h
  action_in (HandedOut (Stops f) ∷ gave) = Err (Io f)
  action_in (_ ∷ gave) = action_in gave
  action_in [] = Err (Io fault.Pipe)

  -- the answer of a reading that ended so and gave this
  abbrev pub answered : Option IoFault → List (Given (Told U)) → Result Handed ActionError
  answered None gave = action_in gave
  answered (Some f) gave = Err (Io f)

  -- what was received and sent, in order
  abbrev pub exchanges_in : List Turn → List (Deed U)
  exchanges_in [] = []
  exchanges_in (Received r ∷ turns) = Came r ∷ exchanges_in turns
  exchanges_in (Handled es ∷ turns) = map Sent es ++ exchanges_in turns
  exchanges_in (Unread es ∷ turns) = map Sent es ++ exchanges_in turns

-- ---- how much is read

abbrev pub new_reading : Reading
new_reading = record { turns_left = 64; read = 0 }

-- the count of requests stops at the greatest number
abbrev pub read_on : Reading → ℕ → ℕ → Reading
read_on r left handled = record { turns_left = left; read = min (r.read + handled) 0xFFFFFFFFFFFFFFFF }

module _ {T U C : Type 0} where
  -- nothing is read, for this reason
  abbrev pub ReadsNone : ActionError → Reading → Part T U C → Result Handed ActionError → Reading → Bool → List (Deed U) → Part T U C → Type 0
  ReadsNone e r before answer r' refused did after =
      (answer ≡ Err e) × (r' ≡ r) × (refused ≡ false) × (did ≡ []) × (after ≡ before)

module _ {T U G C : Type 0} (sends : T → Queue → Result ℕ IoFault → T → Type 0) (receives : T → ℕ → Result Queue IoFault → T → Type 0) where
  -- a reading answers so
  abbrev pub ReadsTo : Around G C → Reading → Part T U C → Result Handed ActionError → Reading → Bool → List (Deed U) → Part T U C → Type 0
  ReadsTo a r before answer r' refused did after =
      (turns : List Turn) × (out : Gives (Told U)) × (end : ReaderState T (Core U C))
      × Reads sends (server a) receives r.turns_left (reader_part before) turns out end
      × (answer ≡ answered out.stopped out.gave) × (r' ≡ read_on r out.left (handled_in turns)) × (refused ≡ out.refused)
      × (did ≡ deeds_of (exchanges_in turns) out.gave end.core) × (after ≡ part_of end)

  -- an open action is reported first, and then that the client was killed
  abbrev pub NextAction : Around G C → Reading → Part T U C → Result Handed ActionError → Reading → Bool → List (Deed U) → Part T U C → Type 0
  NextAction a r before answer r' refused did after =
      MatchOption before.action
      (MatchBool before.is_killed
      (ReadsNone (Io fault.Pipe) r before answer r' refused did after)
      (ReadsTo a r before answer r' refused did after))
      (λ _. ReadsNone ActionOpen r before answer r' refused did after)
