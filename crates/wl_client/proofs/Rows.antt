-- Worked calls, computed from the definitions: they say what was meant.
use Rattle.std.proofs.Common.{◌≡◌, ℕ, Bool, List, [], ◌∷◌, ◌++◌, Option, Some, None, Result, Ok, Err, true, false, refl}
use Rattle.std.specs.Fmt.{decimal}
use Rattle.std.specs.Prelude.{codes}
use Rattle.wl_wire.specs.declared.argument.AllowNull.TheVariants.{Yes, No}
use Rattle.wl_wire.specs.declared.argument.Argument.{Argument}
use Rattle.wl_wire.specs.declared.argument.Argument.TheVariants as arg
use Rattle.wl_wire.specs.declared.argument.ArgumentType.TheVariants as kind
use Rattle.wl_wire.specs.declared.argument.Token.{Token}
use Rattle.wl_wire.specs.declared.interface.InterfaceId.{InterfaceId}
use Rattle.wl_wire.specs.Table.{InterfaceRow, MessageRow, first_message, fixed_rows}
use Rattle.wl_link.specs.Identity.{Objects}
use Rattle.wl_link.specs.Store.{Store, held, removed, rewritten}
use Rattle.wl_link.specs.declared.object.Object.{Object}
use Rattle.wl_client.specs.declared.error.RequestError.{RequestError}
use Rattle.wl_client.specs.declared.error.RequestError.TheVariants as refused
use Rattle.wl_client.specs.declared.request.Granted.{Granted}
use Rattle.wl_client.specs.declared.event_fault.EventFault.TheVariants as wrong
use Rattle.wl_client.specs.declared.objects.Kept.{Kept}
use Rattle.wl_client.specs.ObjectId.{IdParts}
use Rattle.wl_client.specs.Events.{Wrong, convert, object_argument, object_argument_of, start, fault_text, Fails, Deletes, Unreadable, display_event, deleted}
use Rattle.wl_client.specs.Requests.{SessionMessage, Spec, checked_sender, interface_fault, object_fault}
use Rattle.wl_client.specs.Session.{display_object, flagged, fresh_object, null_parts, with_id_deleted}

-- ---- a table of one interface more

abbrev quad_id : InterfaceId
quad_id = record { 0 = 4 }

abbrev registry_id : InterfaceId
registry_id = record { 0 = 2 }

abbrev callback_id : InterfaceId
callback_id = record { 0 = 3 }

abbrev quad_row : InterfaceRow
quad_row = record {
  name = codes "quad";
  version = 3;
  requests = first_message (codes "link") (kind.Object Yes ∷ kind.Object No ∷ []) None (quad_id ∷ quad_id ∷ []) ∷ [];
  events = first_message (codes "made") (kind.NewId ∷ []) (Some quad_id) [] ∷ [];
}

abbrev table : List InterfaceRow
table = fixed_rows ++ quad_row ∷ []

abbrev made_row : MessageRow
made_row = first_message (codes "made") (kind.NewId ∷ []) (Some quad_id) []

abbrev display_id : IdParts
display_id = record { number = 1; serial = 0; interface = record { 0 = 1 } }

-- a `quad` of version 3 with serial 2, and the same that the client destroyed
abbrev quad : Object (Kept ℕ)
quad = fresh_object quad_id 3 2 (Some 6)

abbrev destroyed_quad : Object (Kept ℕ)
destroyed_quad = flagged true quad

abbrev quad_at_3 : IdParts
quad_at_3 = record { number = 3; serial = 2; interface = quad_id }

abbrev request : IdParts → ℕ → List (Argument IdParts Token) → SessionMessage
request sender opcode args = record { sender = sender; opcode = opcode; args = args }

module _ (store : Store (Kept ℕ)) where
  -- ---- requests

  abbrev sync_of : List (Argument IdParts Token) → Bool → Option Spec → Result Granted RequestError
  sync_of args has_data spec = checked_sender table store (Some display_object) (request display_id 0 args) has_data spec

  -- a sync creates a callback of version 1
  sync_is_granted : sync_of (arg.NewId null_parts ∷ []) true None ≡ Ok (record { child = Some (callback_id, 1); is_destructor = false })
  sync_is_granted = refl

  -- a sender that the id does not name is looked at before the opcode
  no_sender : checked_sender table store None (request null_parts 42 []) false None ≡ Err refused.InvalidId
  no_sender = refl

  sync_with_a_number : sync_of (arg.Uint 1 ∷ []) true None ≡ Err refused.BadSignature
  sync_with_a_number = refl

  sync_for_a_registry : sync_of (arg.NewId null_parts ∷ []) true (Some (registry_id, 1)) ≡ Err refused.WrongChild
  sync_for_a_registry = refl

  sync_of_another_version : sync_of (arg.NewId null_parts ∷ []) true (Some (callback_id, 2)) ≡ Err refused.WrongChildVersion
  sync_of_another_version = refl

  sync_for_no_interface : sync_of (arg.NewId null_parts ∷ []) true (Some (record { 0 = 9 }, 1)) ≡ Err refused.UnknownInterface
  sync_for_no_interface = refl

  sync_without_data : sync_of (arg.NewId null_parts ∷ []) false None ≡ Err refused.MissingObjectData
  sync_without_data = refl

  sync_with_an_id : sync_of (arg.NewId quad_at_3 ∷ []) true None ≡ Err refused.NotPlaceholder
  sync_with_an_id = refl

  -- a destroyed sender is looked at after the opcode
  opcode_of_a_destroyed_sender : checked_sender table store (Some destroyed_quad) (request quad_at_3 9 []) false None ≡ Err refused.UnknownOpcode
  opcode_of_a_destroyed_sender = refl

  destroyed_sender : checked_sender table store (Some destroyed_quad) (request quad_at_3 0 []) false None ≡ Err refused.InvalidId
  destroyed_sender = refl

  -- null may stand where the signature allows it, and nowhere else
  null_where_allowed : object_fault store Yes quad_id null_parts ≡ None
  null_where_allowed = refl

  null_where_forbidden : object_fault store No quad_id null_parts ≡ Some refused.NullObject
  null_where_forbidden = refl

  object_that_fits : interface_fault quad_id (Some quad) ≡ None
  object_that_fits = refl

  object_of_another_interface : interface_fault registry_id (Some quad) ≡ Some refused.WrongInterface
  object_of_another_interface = refl

  -- ---- events

  abbrev objects : Objects (Kept ℕ)
  objects = record { store = store; last_serial = 2 }

  -- a new id of the client's range is invalid, and nothing is made
  made_in_the_clients_range : convert 3 false (start objects made_row) [] (arg.NewId 5 ∷ []) ≡ Wrong (wrong.InvalidNewId 5 quad_id) objects
  made_in_the_clients_range = refl

  -- the number of an object argument is null, or that of an object that fits
  null_argument : object_argument store quad_id 0 ≡ Ok null_parts
  null_argument = refl

  argument_that_fits : object_argument_of quad_id 3 (Some quad) ≡ Ok quad_at_3
  argument_that_fits = refl

  argument_of_another_interface : object_argument_of registry_id 3 (Some quad) ≡ Err (wrong.WrongInterface 3 registry_id quad_id)
  argument_of_another_interface = refl

  -- what the client destroyed leaves the store where the server deletes its id, and another object is flagged
  deleted_after_destruction : held store 3 ≡ Some destroyed_quad → deleted store 3 ≡ removed store 3
  deleted_after_destruction holds = rw holds refl

  deleted_before_destruction : held store 3 ≡ Some quad → deleted store 3 ≡ rewritten store 3 (with_id_deleted quad)
  deleted_before_destruction holds = rw holds refl

invalid_text : fault_text table (wrong.InvalidNewId 5 quad_id)
    ≡ codes "Protocol error: server tried to create an object \"quad\" with invalid id " ++ (decimal 5 ++ codes ".")
invalid_text = refl

-- ---- events of the display

an_error : display_event 0 (arg.Object 3 ∷ arg.Uint 7 ∷ arg.Str (Some (codes "no")) ∷ []) ≡ Fails 7 3 (codes "no")
an_error = refl

an_error_without_text : display_event 0 (arg.Object 0 ∷ arg.Uint 0 ∷ arg.Str None ∷ []) ≡ Unreadable
an_error_without_text = refl

a_number_given_up : display_event 1 (arg.Uint 3 ∷ []) ≡ Deletes 3
a_number_given_up = refl
