-- The checks of an event's arguments.
use Rattle.std.proofs.Common.{◌≡◌, ℕ, ◌<◌, ◌∷◌, [], List, length, drop, None, refl, arith}
use Rattle.std.proofs.lemmas.List.{drop_all}
use Rattle.std.proofs.lemmas.Bool.{cases_lt}
use Rattle.wl_wire.specs.declared.argument.Argument.{Argument}
use Rattle.wl_wire.specs.declared.argument.ArgumentType.{ArgumentType}
use Rattle.wl_wire.specs.declared.argument.Token.{Token}
use Rattle.wl_wire.specs.declared.interface.InterfaceId.{InterfaceId}
use Rattle.wl_wire.specs.Table.{MessageRow}
use Rattle.wl_link.specs.Refusals.{first_refusal}
use Rattle.wl_link.specs.Store.{Store}
use Rattle.wl_server_client.specs.declared.objects.Kept.{Kept}
use Rattle.wl_server_client.specs.Events.{argument_faults}
use Rattle.wl_server_client.specs.Ids.{ClientParts, IdParts}

module _ {U : Type 0} (client : ClientParts) (store : Store (Kept U)) (row : MessageRow) where
  -- nothing is left on one side
  faults-no_args : (kinds : List ArgumentType) (asked : List InterfaceId) → argument_faults client store row kinds asked [] ≡ []
  faults-no_args [] asked = refl
  faults-no_args (k ∷ kinds) asked = refl

  -- so there is none behind what was looked at
  pub no_fault : (kinds : List ArgumentType) (asked : List InterfaceId) (args : List (Argument IdParts Token)) (i : ℕ)
      → (i < length kinds → i < length args → ⊥)
      → None ≡ first_refusal (argument_faults client store row (drop i kinds) asked (drop i args))
  no_fault kinds asked args i none = grind (arith, cases_lt, length, drop_all, faults-no_args, drop)
