-- What requests to displays and registries come to, by their arguments.
use Rattle.std.proofs.Common.{◌≡◌, ℕ, true, ◌==◌, if◌then◌else◌, List, [], ◌∷◌, Option, None, Some, refl}
use Rattle.std.specs.List.{list_any}
use Rattle.wl_wire.specs.declared.argument.Argument.TheVariants as arg
use Rattle.wl_wire.specs.Argument.{WireArgument, type_of}
use Rattle.wl_wire.specs.Table.{is_new_id}
use Rattle.wl_link.specs.Reader.{Verdict}
use Rattle.wl_link.specs.Store.{held}
use Rattle.wl_server_client.specs.declared.reading.violation.MessageFault.TheVariants as message
use Rattle.wl_server_client.specs.Reading.{Around, binds_to, display_request, garbled, hands_registry, made_at, registers, registry_request, syncs}
use Rattle.wl_server_client.specs.Inside.Responses.{bind_parts, only_new_id}
use Rattle.wl_server_client.specs.Telling.{Core, Told}
use Rattle.wl_server_client.specs.Violations.{Addressed, violation}

pub one_new : (args : List WireArgument) (n : ℕ) → only_new_id args ≡ Some n → list_any (λ x. is_new_id (type_of x)) args ≡ true
one_new (arg.NewId m ∷ []) n is = refl
one_new _ n is = cc

module _ {U G C : Type 0} (a : Around G C) (c : Core U C) (to : Addressed) where
  abbrev pub by_new_id : ℕ → Option ℕ → Verdict (Core U C) (Told U)
  by_new_id opcode None = garbled c (violation to message.UnknownOpcode)
  by_new_id opcode (Some n) =
      made_at a c to 0 n (if opcode == 0 then syncs a c n else (if a.hands_registries then hands_registry a c n else registers a c n))

  pub display_is : (opcode : ℕ) (args : List WireArgument) → display_request a c to opcode args ≡ by_new_id opcode (only_new_id args)
  display_is opcode (arg.NewId m ∷ []) = refl
  display_is opcode _ = refl

  abbrev pub by_parts : Option (ℕ × (Option (List ℕ) × (ℕ × ℕ))) → Verdict (Core U C) (Told U)
  by_parts None = garbled c (violation to message.UnknownOpcode)
  by_parts (Some (g, (name, (version, n)))) = binds_to a c to g name version n (held a.globals.store g)

  pub registry_is : (args : List WireArgument) → registry_request a c to args ≡ by_parts (bind_parts args)
  registry_is (arg.Uint a ∷ arg.Str b ∷ arg.Uint c ∷ arg.NewId d ∷ []) = refl
  registry_is _ = refl
