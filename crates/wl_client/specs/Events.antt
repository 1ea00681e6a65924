-- What an event does to the objects of a session.
--
-- Its arguments go from left to right. The number of an object becomes the id of the object that holds it; each object
-- argument takes the next of the table's interfaces. A new id makes an object.
use Rattle.std.specs.Prelude.{ℕ, ◌+◌, List, [], ◌∷◌, ◌++◌, Bool, false, not, ◌==◌, ◌&&◌, if◌then◌else◌, Option, None, Some, Result, Ok, Err, codes}
use Rattle.std.specs.Fmt.{decimal}
use Rattle.std.specs.Str.Lossy.{utf8_lossy}
use Rattle.wl_wire.specs.declared.argument.Argument.{Argument}
use Rattle.wl_wire.specs.declared.argument.Argument.TheVariants as arg
use Rattle.wl_wire.specs.declared.argument.Token.{Token}
use Rattle.wl_wire.specs.declared.interface.InterfaceId.{InterfaceId}
use Rattle.wl_wire.specs.declared.error.ProtocolError.{ProtocolError}
use Rattle.wl_wire.specs.Argument.{WireArgument}
use Rattle.wl_wire.specs.Table.{InterfaceRow, MessageRow, anonymous_id, name_of}
use Rattle.wl_link.specs.declared.object.Object.{Object}
use Rattle.wl_link.specs.Identity.{Objects}
use Rattle.wl_link.specs.Store.{Store, held, is_free, is_server_number, removed, rewritten, stored}
use Rattle.wl_wire.specs.MessageRows.{fits, next_interface, rest_of}
use Rattle.wl_client.specs.declared.event_fault.EventFault.{EventFault}
use Rattle.wl_client.specs.declared.event_fault.EventFault.TheVariants as wrong
use Rattle.wl_client.specs.declared.objects.Kept.{Kept}
use Rattle.wl_client.specs.ObjectId.{IdParts}
use Rattle.wl_client.specs.Session.{null_parts, id_at, last_possible_serial, flagged, fresh_object, with_id_deleted}

-- ---- what is wrong with an event

-- the text of the error that is stored
abbrev pub fault_text : List InterfaceRow → EventFault → List ℕ
fault_text table wrong.Malformed = codes "Malformed Wayland message."
fault_text table (wrong.UnknownObject n) = codes "Unknown object " ++ decimal n ++ codes "."
fault_text table (wrong.WrongInterface n asked i) =
    codes "Protocol error: server sent object "
    ++ (decimal n
    ++ (codes " for interface " ++ (name_of table asked.0 ++ (codes ", but it has interface " ++ (name_of table i.0 ++ codes ".")))))
fault_text table (wrong.InvalidNewId n i) =
    codes "Protocol error: server tried to create an object \""
    ++ (name_of table i.0 ++ (codes "\" with invalid id " ++ (decimal n ++ codes ".")))

-- the error that is stored: code 0, object 0, no interface
abbrev pub error_of : List InterfaceRow → EventFault → ProtocolError
error_of table wrong = record { code = 0; object_id = 0; object_interface = []; message = fault_text table wrong }

-- ---- arguments

-- how far the arguments were gone through: the objects so far, the interfaces not taken yet, the interface of the
-- object that the event may yet make, and the one that it made
pub record Converting (U : Type 0) : Type 0 where
  pub objects : Objects (Kept U)
  pub asked : List InterfaceId
  pub child : Option InterfaceId
  pub created : Option IdParts

-- what an argument becomes, and how far the arguments were gone through then; or what is wrong with it
abbrev pub Converted : Type 0 → Type 0
Converted U = Result (Argument IdParts Token × Converting U) EventFault

-- what the arguments became; or what is wrong with the first that is wrong, and the objects as they then are
pub data Outcome (U : Type 0) : Type 0 where
  Whole : Converting U → List (Argument IdParts Token) → Outcome U
  Wrong : EventFault → Objects (Kept U) → Outcome U

module _ {U : Type 0} where
  abbrev pub object_argument_of : InterfaceId → ℕ → Option (Object (Kept U)) → Result IdParts EventFault
  object_argument_of asked n None = Err (wrong.UnknownObject n)
  object_argument_of asked n (Some x) =
      if fits asked x.interface then Ok (id_at n x) else Err (wrong.WrongInterface n asked x.interface)

  -- the id that the number of an object becomes; null is handed out even if the signature does not allow it
  abbrev pub object_argument : Store (Kept U) → InterfaceId → ℕ → Result IdParts EventFault
  object_argument store asked n = if n == 0 then Ok null_parts else object_argument_of asked n (held store n)

  abbrev pub is_destroyed : Option (Object (Kept U)) → Bool
  is_destroyed None = false
  is_destroyed (Some x) = x.value.client_destroyed

  -- The store without the object of a number, if the client destroyed it. So it is when the server makes an object there.
  abbrev pub vacated : Store (Kept U) → ℕ → Store (Kept U)
  vacated store n = if is_destroyed (held store n) then removed store n else store

  -- The store after the server deleted the id of a number. An object that the client destroyed leaves it; another one is flagged.
  abbrev pub deleted_at : Store (Kept U) → ℕ → Option (Object (Kept U)) → Store (Kept U)
  deleted_at store n None = store
  deleted_at store n (Some x) = if x.value.client_destroyed then removed store n else rewritten store n (with_id_deleted x)

  abbrev pub deleted : Store (Kept U) → ℕ → Store (Kept U)
  deleted store n = deleted_at store n (held store n)

  -- The server may make an object at that number: it is one of the server's range, and free, or its object was destroyed by
  -- the client; and a serial is left.
  abbrev pub is_valid_new : Objects (Kept U) → ℕ → Bool
  is_valid_new objects n =
      is_server_number n && (is_free (vacated objects.store n) n && not (objects.last_serial == last_possible_serial))

  -- the object that an event makes: it has its receiver's version, and is destroyed by the client if the receiver is
  abbrev pub made_object : ℕ → Bool → InterfaceId → ℕ → Object (Kept U)
  made_object version destroyed i serial = flagged destroyed (fresh_object i version serial None)

  abbrev pub with_made_object : Objects (Kept U) → ℕ → Object (Kept U) → Objects (Kept U)
  with_made_object objects n x = record {
    store = stored (vacated objects.store n) n x;
    last_serial = objects.last_serial + 1;
  }

  abbrev pub with_object_argument : Converting U → Result IdParts EventFault → Converted U
  with_object_argument c (Ok id) = Ok (arg.Object id, record c { asked = rest_of c.asked })
  with_object_argument c (Err wrong) = Err wrong

  abbrev pub with_new_at : ℕ → Bool → Converting U → ℕ → InterfaceId → Argument IdParts Token × Converting U
  with_new_at version destroyed c n i =
      let x = made_object version destroyed i (c.objects.last_serial + 1) in (
        arg.NewId (id_at n x),
        record { objects = with_made_object c.objects n x; asked = c.asked; child = None; created = Some (id_at n x) },
      )

  -- an event makes one object at most, of the interface that the table names
  abbrev pub with_new_argument : ℕ → Bool → Converting U → ℕ → Option InterfaceId → Converted U
  with_new_argument version destroyed c n None = Err (wrong.InvalidNewId n anonymous_id)
  with_new_argument version destroyed c n (Some i) =
      if is_valid_new c.objects n then Ok (with_new_at version destroyed c n i) else Err (wrong.InvalidNewId n i)

  -- what an argument of an event becomes; the receiver has this version, and was destroyed by the client or not
  abbrev pub convert_one : ℕ → Bool → Converting U → WireArgument → Converted U
  convert_one version destroyed c (arg.Int z) = Ok (arg.Int z, c)
  convert_one version destroyed c (arg.Uint n) = Ok (arg.Uint n, c)
  convert_one version destroyed c (arg.Fixed z) = Ok (arg.Fixed z, c)
  convert_one version destroyed c (arg.Str text) = Ok (arg.Str text, c)
  convert_one version destroyed c (arg.Object n) =
      with_object_argument c (object_argument c.objects.store (next_interface c.asked) n)
  convert_one version destroyed c (arg.NewId n) = with_new_argument version destroyed c n c.child
  convert_one version destroyed c (arg.Array bytes) = Ok (arg.Array bytes, c)
  convert_one version destroyed c (arg.Fd token) = Ok (arg.Fd token, c)

  abbrev pub going_on : Converted U → Objects (Kept U) → (Argument IdParts Token → Converting U → Outcome U) → Outcome U
  going_on (Ok next) objects on = on next.0 next.1
  going_on (Err wrong) objects on = Wrong wrong objects

  -- all arguments, from left to right, after those that were gone through
  abbrev pub convert : ℕ → Bool → Converting U → List (Argument IdParts Token) → List WireArgument → Outcome U
  convert version destroyed c done [] = Whole c done
  convert version destroyed c done (a ∷ args) =
      going_on (convert_one version destroyed c a) c.objects (λ b next. convert version destroyed next (done ++ b ∷ []) args)

  abbrev pub start : Objects (Kept U) → MessageRow → Converting U
  start objects row = record {
    objects = objects;
    asked = row.arg_interfaces;
    child = row.child_interface;
    created = None;
  }

-- ---- events of the display

-- what an event of the display tells
pub data DisplayEvent : Type 0 where
  -- the error that ends the session
  Fails : (code object : ℕ) (message : List ℕ) → DisplayEvent
  -- the server deleted the id of an object
  Deletes : (number : ℕ) → DisplayEvent
  -- an error without a text, or no event of the display
  Unreadable : DisplayEvent

abbrev pub error_event : List WireArgument → DisplayEvent
error_event (arg.Object n ∷ arg.Uint code ∷ arg.Str (Some text) ∷ []) = Fails code n text
error_event _ = Unreadable

abbrev pub delete_event : List WireArgument → DisplayEvent
delete_event (arg.Uint n ∷ []) = Deletes n
delete_event _ = Unreadable

abbrev pub display_event : ℕ → List WireArgument → DisplayEvent
display_event opcode args =
    if opcode == 0 then error_event args else (if opcode == 1 then delete_event args else Unreadable)

abbrev pub interface_name : {U : Type 0} → List InterfaceRow → Option (Object (Kept U)) → List ℕ
interface_name table None = codes "<unknown>"
interface_name table (Some x) = name_of table x.interface.0

-- the error that the server tells, with the name of the interface of the object that it is about
abbrev pub told_error : {U : Type 0} → List InterfaceRow → Store (Kept U) → ℕ → ℕ → List ℕ → ProtocolError
told_error table store code n text = record {
  code = code;
  object_id = n;
  object_interface = interface_name table (held store n);
  message = utf8_lossy text;
}
