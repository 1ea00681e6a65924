-- What the functions that go through a request say to those that answer it.
use Rattle.std.specs.Prelude.{◌≡◌, ⊤, ℕ, List, [], ◌∷◌, Bool, false, ◌&&◌, nat_le, nat_lt, Option, None, Some, is_some, Result, Ok, Err}
use Rattle.std.specs.Option.{option_map_or}
use Rattle.std.specs.Str.{bytes_eq}
use Rattle.wl_wire.specs.declared.argument.Argument.{Argument}
use Rattle.wl_wire.specs.declared.argument.Argument.TheVariants as arg
use Rattle.wl_wire.specs.declared.argument.Token.{Token}
use Rattle.wl_wire.specs.Argument.{WireArgument}
use Rattle.wl_wire.specs.declared.error.MessageParseError.{MessageParseError}
use Rattle.wl_wire.specs.Message.{WireMessage}
use Rattle.wl_wire.specs.Table.{InterfaceRow, MessageRow, holds_zero, message_row, name_of}
use Rattle.wl_link.specs.declared.object.Object.{Object}
use Rattle.wl_link.specs.Link.{LinkState}
use Rattle.wl_link.specs.Reader.{Verdict}
use Rattle.wl_link.specs.Store.{held}
use Rattle.wl_server_client.specs.declared.reading.action.OpenAction.{OpenAction}
use Rattle.wl_server_client.specs.declared.reading.action.OpenAction.TheVariants as opened
use Rattle.wl_server_client.specs.declared.objects.ClientObjects.{ClientObjects}
use Rattle.wl_server_client.specs.declared.objects.Kept.{Kept}
use Rattle.wl_server_client.specs.declared.globals.KeptGlobal.{KeptGlobal}
use Rattle.wl_server_client.specs.declared.reading.registry_request.Bind.{Bind}
use Rattle.wl_server_client.specs.declared.reading.front_request.FrontRequest.{FrontRequest}
use Rattle.wl_server_client.specs.declared.reading.response.Breach.{Breach}
use Rattle.wl_server_client.specs.declared.reading.response.Breach.TheVariants as broke
use Rattle.wl_server_client.specs.declared.reading.response.RequestFault.TheVariants as wrong
use Rattle.wl_server_client.specs.declared.reading.response.Response.{Response}
use Rattle.wl_server_client.specs.declared.reading.response.Response.TheVariants as response
use Rattle.wl_server_client.specs.declared.reading.violation.MessageFault.{MessageFault}
use Rattle.wl_server_client.specs.declared.reading.violation.MessageFault.TheVariants as message
use Rattle.wl_server_client.specs.declared.reading.action.Found.{Found}
use Rattle.wl_server_client.specs.declared.reading.action.Found.TheVariants as found
use Rattle.wl_server_client.specs.Deeds.{Remembered}
use Rattle.wl_server_client.specs.Errors.{bind_text, fault_text, limit_text, new_id_text, since_text}
use Rattle.wl_server_client.specs.Globals.{is_visible, shown}
use Rattle.wl_server_client.specs.Ids.{IdParts}
use Rattle.wl_server_client.specs.Part.{id_of}
use Rattle.wl_server_client.specs.Reading.{Around, breaks, garbled, hands_out, replies, request_to, row_in}
use Rattle.wl_server_client.specs.Telling.{Core, Told, deletions, done_message, introductions}
use Rattle.wl_server_client.specs.Violations.{Addressed, violation}
use Rattle.wl_server_client.specs.Inside.ReadingLoop.{NotTaken, ReadsIn, found_with}

-- the number of the new id, if that is the only argument
abbrev pub only_new_id : List WireArgument → Option ℕ
only_new_id (arg.NewId n ∷ []) = Some n
only_new_id _ = None

-- the name of a global, the name of an interface, the version and the number, if these are the arguments
abbrev pub bind_parts : List WireArgument → Option (ℕ × (Option (List ℕ) × (ℕ × ℕ)))
bind_parts (arg.Uint g ∷ arg.Str name ∷ arg.Uint version ∷ arg.NewId n ∷ []) = Some (g, (name, (version, n)))
bind_parts _ = None

abbrev pub bind_of : Bind → ℕ × (Option (List ℕ) × (ℕ × ℕ))
bind_of b = (b.global, (b.interface.now, (b.version, b.number)))

-- the client of these data may bind the global so
abbrev pub allows : {G C : Type 0} → Around G C → C → ℕ → Option (List ℕ) → ℕ → Object (KeptGlobal G) → Bool
allows a client_data g None version x = false
allows a client_data g (Some name) version x =
    bytes_eq name (name_of a.table x.interface.0)
    && (nat_lt 0 version && (nat_le version x.version && is_visible a.views a.client client_data g x))

-- the code and the text of the error
abbrev pub code_of : Breach → ℕ
code_of (broke.SinceLater _ _ _ _ _) = 1
code_of (broke.TooManyObjects _) = 2
code_of _ = 0

abbrev pub text_of : List InterfaceRow → Breach → List ℕ
text_of table (broke.InvalidNewId place n) = new_id_text n
text_of table (broke.RefusedBind g version name) = bind_text (option_map_or (λ t. t) name.now []) version g
text_of table (broke.SinceLater opcode version since i n) = since_text opcode version since (name_of table i.0) n
text_of table (broke.TooManyObjects limit) = limit_text limit
text_of table (broke.WrongArgument i desc place wrong) = fault_text table i (message_row desc.now) wrong

-- what was wrong with the message
abbrev pub fault_of : Breach → MessageFault
fault_of (broke.InvalidNewId place n) = message.WrongArgument place (wrong.InvalidNewId n)
fault_of (broke.RefusedBind g version name) = message.RefusedBind g version (is_some name.now)
fault_of (broke.SinceLater opcode version since i n) = message.SinceLater version since
fault_of (broke.TooManyObjects limit) = message.TooManyObjects limit
fault_of (broke.WrongArgument i desc place fault) = message.WrongArgument place fault

-- the name of the request that has a wrong argument holds no zero, so that its text is a string
abbrev pub HasName : Breach → Type 0
HasName (broke.WrongArgument i desc place wrong) = holds_zero (message_row desc.now).name ≡ false
HasName _ = ⊤

abbrev pub HasNames : Response → Type 0
HasNames (response.Breaks b) = HasName b
HasNames _ = ⊤

-- it is neither a sync nor an action that is handed out
abbrev pub IsOther : Response → Type 0
IsOther (response.Syncs _) = ⊥
IsOther response.HandsOut = ⊥
IsOther _ = ⊤

-- the request as its violation names it
abbrev pub addressed_by : FrontRequest → Addressed
addressed_by front = record { sender = front.number; interface = front.sender.interface; opcode = front.opcode }

-- what the end of an action has to know of it
abbrev pub opened_of : Found → OpenAction
opened_of (found.Request sender opcode is_destructor created) = opened.Request sender is_destructor created
opened_of (found.Bind global object) = opened.Bind object
opened_of (found.Registry object) = opened.Bind object

module _ {U G C : Type 0} (a : Around G C) where
  -- What is yet to be done for a message to that object, as a verdict. An action that is handed out was found so, with these
  -- arguments.
  abbrev pub response_to : Core U C → Addressed → Response → Found → List (Argument IdParts Token) → Verdict (Core U C) (Told U)
  response_to c to response.Malformed f args = garbled c (violation to message.UnknownOpcode)
  response_to c to (response.Breaks b) f args = breaks a c (violation to (fault_of b)) (code_of b) (text_of a.table b)
  response_to c to (response.Syncs id) f args = replies c (done_message (id_of id) ∷ deletions id.number) []
  response_to c to (response.Registers id) f args =
      replies c (introductions a.table (id_of id) 0 (shown a.views a.globals a.client c.client_data)) (Remembered (id_of id) ∷ [])
  response_to c to response.HandsOut f args = hands_out c (opened_of f) (found_with f args)

module _ {U C : Type 0} where
  -- a client's core with these data and objects
  abbrev pub core_with : Core U C → C → ClientObjects U → Core U C
  core_with c client_data objects =
      record c { client_data = client_data; store = objects.map.store; last_serial = objects.last_serial; registries = objects.registries.items }

module _ {T U G C : Type 0} (a : Around G C) (client_data : C) where
  -- the message at the front was taken, and `response` is what is still to be done for it; or none was taken
  abbrev pub TookRequest : FrontRequest → ClientObjects U → LinkState T → Result Response MessageParseError → Found → List (Argument IdParts Token)
      → ClientObjects U → LinkState T → Type 0
  TookRequest front objects before (Ok response) f args objects' after =
      (m : WireMessage) × (row : MessageRow) × ReadsIn a.table objects.map.store before (Ok m) after
      × (row_in a.table (held objects.map.store m.sender) m.opcode ≡ Some row)
      × ((x : Object (Kept U)) (c : Core U C) → held objects.map.store m.sender ≡ Some x
      → request_to a (core_with c client_data objects) m x row ≡ response_to a (core_with c client_data objects') (addressed_by front) response f args)
  TookRequest front objects before (Err e) f args objects' after =
      (after ≡ before) × (objects'.map.store ≡ objects.map.store) × (objects'.last_serial ≡ objects.last_serial)
      × (objects'.registries.items ≡ objects.registries.items) × NotTaken a.table objects.map.store before e
