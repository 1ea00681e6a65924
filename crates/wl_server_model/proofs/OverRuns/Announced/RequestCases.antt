-- What a request may come to: one of a few verdicts, whatever is asked of them.
use Rattle.std.proofs.Common.{◌≡◌, ℕ, Bool, true, false, cond, eqb, List, [], ◌∷◌, Option, None, Some, refl}
use Rattle.wl_wire.specs.declared.argument.Argument.TheVariants as arg
use Rattle.wl_wire.specs.Argument.{WireArgument}
use Rattle.wl_wire.specs.Message.{WireMessage}
use Rattle.wl_wire.specs.Table.{MessageRow, display_id, registry_id}
use Rattle.wl_link.specs.declared.object.Object.{Object}
use Rattle.wl_link.specs.Reader.{Verdict}
use Rattle.wl_link.specs.Store.{held}
use Rattle.wl_server_client.specs.declared.objects.Kept.{Kept}
use Rattle.wl_server_client.specs.declared.globals.KeptGlobal.{KeptGlobal}
use Rattle.wl_server_client.specs.declared.reading.violation.Violation.{Violation}
use Rattle.wl_server_client.specs.Limited.{limit_passed}
use Rattle.wl_server_client.specs.Reading.{Around, binds, binds_to, breaks, by_interface, display_request, garbled, hands_registry, may_bind, other_request, refuses_bind, registers, registry_request, request, row_in, sent_to, server, syncs, unless_passed}
use Rattle.wl_server_client.specs.Requests.{is_valid_new}
use Rattle.wl_server_client.specs.Telling.{Core, Told, objects_in}
use Rattle.wl_server_client.specs.Violations.{Addressed, violation}
use Rattle.wl_server_client.specs.Errors.{limit_text, new_id_text}
use Rattle.wl_server_client.specs.declared.reading.response.RequestFault.TheVariants as wrong
use Rattle.wl_server_client.specs.declared.reading.violation.MessageFault.TheVariants as message

module _ {U G C : Type 0} (a : Around G C) (c : Core U C) (P : Verdict (Core U C) (Told U) → Type 0)
    (garbled' : (w : Violation) → P (garbled c w)) (breaks' : (w : Violation) (code : ℕ) (text : List ℕ) → P (breaks a c w code text)) where
  module _ (syncs' : (n : ℕ) → is_valid_new (objects_in c) n ≡ true → P (syncs a c n))
      (registers' : (n : ℕ) → is_valid_new (objects_in c) n ≡ true → P (registers a c n))
      (hands' : (n : ℕ) → is_valid_new (objects_in c) n ≡ true → P (hands_registry a c n)) where
    -- a new id to a display, which is valid or not; the two tests say which request it is, and whether registries are handed out
    new_case : (to : Addressed) (n : ℕ) (valid is_sync hands : Bool) → is_valid_new (objects_in c) n ≡ valid
        → P (cond valid (cond is_sync (syncs a c n) (cond hands (hands_registry a c n) (registers a c n)))
        (breaks a c (violation to (message.WrongArgument 0 (wrong.InvalidNewId n))) 0 (new_id_text n)))
    new_case to n true true hands is = syncs' n is
    new_case to n true false true is = hands' n is
    new_case to n true false false is = registers' n is
    new_case to n false is_sync hands is = breaks' _ 0 _

    pub display_case : (to : Addressed) (opcode : ℕ) (args : List WireArgument) → P (display_request a c to opcode args)
    display_case to opcode (arg.NewId n ∷ []) = new_case to n (is_valid_new (objects_in c) n) (eqb opcode 0) a.hands_registries refl
    display_case to opcode _ = garbled' _

  -- a bind to the global that has the name, and any other request to a registry
  module _ (binds' : (g version n : ℕ) (x : Object (KeptGlobal G)) → is_valid_new (objects_in c) n ≡ true → P (binds a c g version n x)) where
    bound_case : (to : Addressed) (g : ℕ) (name : Option (List ℕ)) (version n : ℕ) (kept : Option (Object (KeptGlobal G)))
        → P (binds_to a c to g name version n kept)
    bound_case to g name version n None = breaks' _ 0 _
    bound_case to g name version n (Some x) = by (may_bind a c g name version x) (is_valid_new (objects_in c) n) refl
      where
        by : (may valid : Bool) → is_valid_new (objects_in c) n ≡ valid
            → P (cond may
            (cond valid (binds a c g version n x) (breaks a c (violation to (message.WrongArgument 3 (wrong.InvalidNewId n))) 0 (new_id_text n)))
            (refuses_bind a c to g name version))
        by true true is = binds' g version n x is
        by true false is = breaks' _ 0 _
        by false valid is = breaks' _ 0 _

    registry_case : (to : Addressed) (args : List WireArgument) → P (registry_request a c to args)
    registry_case to (arg.Uint g ∷ arg.Str name ∷ arg.Uint version ∷ arg.NewId n ∷ []) =
        bound_case to g name version n (held a.globals.store g)
    registry_case to _ = garbled' _

  -- a request to this object, of whatever kind, that did not pass the limit
  kind_case : ((n : ℕ) → is_valid_new (objects_in c) n ≡ true → P (syncs a c n))
      → ((n : ℕ) → is_valid_new (objects_in c) n ≡ true → P (registers a c n))
      → ((n : ℕ) → is_valid_new (objects_in c) n ≡ true → P (hands_registry a c n))
      → ((g version n : ℕ) (x : Object (KeptGlobal G)) → is_valid_new (objects_in c) n ≡ true → P (binds a c g version n x)) → (m : WireMessage)
      → (receiver : Object (Kept U)) (row : MessageRow)
      → (eqb receiver.interface.0 registry_id.0 ≡ false → P (other_request a c m receiver row))
      → P (by_interface a c m receiver row)
  kind_case syncs' registers' hands' binds' m receiver row other =
      by (eqb receiver.interface.0 display_id.0) (eqb receiver.interface.0 registry_id.0) refl
    where
      by : (b t : Bool) → eqb receiver.interface.0 registry_id.0 ≡ t
          → P (cond b (display_request a c (sent_to m receiver) m.opcode m.args)
          (cond t (registry_request a c (sent_to m receiver) m.args) (other_request a c m receiver row)))
      by true t is = display_case syncs' registers' hands' (sent_to m receiver) m.opcode m.args
      by false true is = registry_case binds' (sent_to m receiver) m.args
      by false false is = other is

  limit_case : (to : Addressed) (limit : Option ℕ) (v : Verdict (Core U C) (Told U)) → P v → P (unless_passed a c to limit v)
  limit_case to None v h = h
  limit_case to (Some limit) v h = breaks' _ 2 (limit_text limit)

  -- a message, of whatever kind
  pub request_case : ((n : ℕ) → is_valid_new (objects_in c) n ≡ true → P (syncs a c n))
      → ((n : ℕ) → is_valid_new (objects_in c) n ≡ true → P (registers a c n))
      → ((n : ℕ) → is_valid_new (objects_in c) n ≡ true → P (hands_registry a c n))
      → ((g version n : ℕ) (x : Object (KeptGlobal G)) → is_valid_new (objects_in c) n ≡ true → P (binds a c g version n x)) → (m : WireMessage)
      → ((receiver : Object (Kept U)) (row : MessageRow) → held c.store m.sender ≡ Some receiver → eqb receiver.interface.0 registry_id.0 ≡ false
      → P (other_request a c m receiver row))
      → P ((server a).handles c m)
  request_case syncs' registers' hands' binds' m others = at (held c.store m.sender) (row_in a.table (held c.store m.sender) m.opcode) refl
    where
      at : (o : Option (Object (Kept U))) (r : Option MessageRow) → held c.store m.sender ≡ o → P (request a c m o r)
      at None None is = garbled' _
      at None (Some row) is = garbled' _
      at (Some x) None is = garbled' _
      at (Some x) (Some row) is =
          limit_case (sent_to m x) (limit_passed a.object_limit m.args) (by_interface a c m x row)
          (kind_case syncs' registers' hands' binds' m x row (others x row is))
