-- Worked values of the limit of objects, computed from the definitions: they say what was meant.
use Rattle.std.proofs.Common.{◌≡◌, ℕ, Bool, List, [], ◌∷◌, None, Some, true, false, refl}
use Rattle.std.specs.Fmt.{digits}
use Rattle.std.specs.Prelude.{codes}
use Rattle.wl_wire.specs.declared.argument.Argument.TheVariants as arg
use Rattle.wl_wire.specs.Argument.{WireArgument}
use Rattle.wl_wire.specs.Message.{WireMessage, piece, size, word}
use Rattle.wl_wire.specs.declared.interface.InterfaceId.{InterfaceId}
use Rattle.wl_wire.specs.Table.{display_id}
use Rattle.wl_server_client.specs.declared.reading.violation.MessageFault.TheVariants as fault
use Rattle.wl_server_client.specs.declared.reading.violation.Violation.{Violation}
use Rattle.wl_server_model.specs.declared.step.Reply.TheVariants as reply
use Rattle.wl_server_model.specs.declared.step.Step.TheVariants as step
use Rattle.wl_server_client.specs.Errors.{limit_text}
use Rattle.wl_server_client.specs.Globals.{Globals, new_offer}
use Rattle.wl_server_client.specs.Limited.{is_above, limit_passed}
use Rattle.wl_server_client.specs.Part.{fresh_object}
use Rattle.wl_server_model.specs.PartStep.{Asked, PartStep, World}
use Rattle.wl_server_client.specs.Reading.{Around, breaks, display_request, other_request, request_to}
use Rattle.wl_server_model.specs.Server.{Seen}
use Rattle.wl_server_model.specs.Steps.{offer_after}
use Rattle.wl_server_client.specs.Telling.{Core, error_message}
use Rattle.wl_server_client.specs.Violations.{Addressed, violation}
use Rattle.wl_server_model.proofs.Worked.Messages.{client, make_row, quad, quad_id, says, table}

-- ---- numbers

-- the limit itself is a number that may be used
numbers : (is_above None 0xFFFFFFFF ≡ false) × (is_above (Some 4) 4 ≡ false) × (is_above (Some 4) 5 ≡ true) × (is_above (Some 0) 1 ≡ true)
numbers = (refl, refl, refl, refl)

-- only new ids are looked at, wherever they stand
arguments : (limit_passed None (arg.NewId 5 ∷ []) ≡ None) × (limit_passed (Some 4) (arg.NewId 4 ∷ []) ≡ None)
    × (limit_passed (Some 4) (arg.NewId 5 ∷ []) ≡ Some 4) × (limit_passed (Some 4) (arg.Uint 9 ∷ arg.Object 9 ∷ []) ≡ None)
    × (limit_passed (Some 4) (arg.Uint 1 ∷ arg.Str None ∷ arg.Uint 3 ∷ arg.NewId 5 ∷ []) ≡ Some 4)
arguments = (refl, refl, refl, refl, refl)

-- ---- the setting

-- it changes nothing else of what is offered, and is answered for each client
setting : offer_after {T = ℕ} {U = ℕ} {G = ℕ} {C = Bool} (new_offer table) (Asked (step.SetObjectLimit (Some 100)) reply.SetObjectLimit)
    ≡ record (new_offer table) { object_limit = Some 100 }
setting = refl

module _ (w : World ℕ ℕ Bool) (seen : Seen ℕ ℕ Bool) where
  felt_by_none : PartStep w client (new_offer table) (step.SetObjectLimit (Some 100)) reply.SetObjectLimit seen false [] seen
  felt_by_none = (refl, (refl, refl, refl))

-- ---- requests

abbrev message : ℕ → ℕ → List WireArgument → WireMessage
message sender opcode args = record { sender = sender; opcode = opcode; args = args }

the_text : (limit_text 100 ≡ codes "Too many objects: at most 100.") × (size (error_message 1 2 (limit_text 100)).message ≡ 52)
unfolding digits word piece
the_text = (refl, refl)

module _ (globals : Globals ℕ) (c : Core ℕ Bool) where
  abbrev limited : Around ℕ Bool
  limited = record { table = table; client = client; globals = globals; views = says; object_limit = Some 4; hands_registries = false }

  abbrev to : ℕ → InterfaceId → ℕ → Addressed
  to sender interface opcode = record { sender = sender; interface = interface; opcode = opcode }

  abbrev too_many : Addressed → Violation
  too_many request = violation request (fault.TooManyObjects 4)

  -- a sync and another request that pass the limit are refused before anything else is looked at: the second is one that the object's
  -- version lacks
  refused : (request_to limited c (message 1 0 (arg.NewId 5 ∷ [])) (fresh_object display_id 1 0 None) make_row
      ≡ breaks limited c (too_many (to 1 display_id 0)) 2 (limit_text 4))
      × (request_to limited c (message 3 1 (arg.NewId 5 ∷ [])) (fresh_object quad_id 1 2 (Some 6)) make_row
      ≡ breaks limited c (too_many (to 3 quad_id 1)) 2 (limit_text 4))
  refused = (refl, refl)

  -- those that do not are as without a limit
  taken : (request_to limited c (message 1 0 (arg.NewId 4 ∷ [])) (fresh_object display_id 1 0 None) make_row
      ≡ display_request limited c (to 1 display_id 0) 0 (arg.NewId 4 ∷ []))
      × (request_to limited c (message 3 1 (arg.NewId 4 ∷ [])) quad make_row ≡ other_request limited c (message 3 1 (arg.NewId 4 ∷ [])) quad make_row)
  taken = (refl, refl)
