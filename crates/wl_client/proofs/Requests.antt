-- The checks of a request's arguments.
use Rattle.std.proofs.Common.{◌≡◌, ℕ, ◌<◌, ◌≤◌, ◌∷◌, [], List, length, drop, Option, None, refl, sym, ap, ◌∙◌, arith, inl, inr}
use Rattle.std.proofs.lemmas.List.{drop_all}
use Rattle.std.proofs.lemmas.Bool.{cases_lt}
use Rattle.wl_link.specs.Store.{Store}
use Rattle.wl_wire.specs.declared.argument.Argument.{Argument}
use Rattle.wl_wire.specs.declared.argument.ArgumentType.{ArgumentType}
use Rattle.wl_wire.specs.declared.argument.Token.{Token}
use Rattle.wl_wire.specs.declared.interface.InterfaceId.{InterfaceId}
use Rattle.wl_client.specs.declared.error.RequestError.{RequestError}
use Rattle.wl_client.specs.declared.objects.Kept.{Kept}
use Rattle.wl_client.specs.ObjectId.{IdParts}
use Rattle.wl_link.specs.Refusals.{first_refusal}
use Rattle.wl_client.specs.Requests.{argument_faults}

-- ---- the first fault, argument by argument

-- nothing is left on one side
argument_faults-no_args : {U : Type 0} (store : Store (Kept U)) (kinds : List ArgumentType) (asked : List InterfaceId) → argument_faults store kinds asked [] ≡ []
argument_faults-no_args store [] asked = refl
argument_faults-no_args store (k ∷ kinds) asked = refl

no_fault_left : {U : Type 0} (store : Store (Kept U)) (kinds : List ArgumentType) (asked : List InterfaceId) (args : List (Argument IdParts Token)) (i : ℕ)
    → (i < length kinds → i < length args → ⊥) → argument_faults store (drop i kinds) asked (drop i args) ≡ []
no_fault_left store kinds asked args i none =
    elim (cases_lt i (length kinds)) [
      | inl some ↦ let past : length args ≤ i = omega (arith, none some) in rw (drop_all i args past) (argument_faults-no_args store (drop i kinds) asked)
      | inr past ↦ rw (drop_all i kinds past) refl
    ]

-- so what was found so far is all
pub no_fault : {U : Type 0} (store : Store (Kept U)) (kinds : List ArgumentType) (asked : List InterfaceId) (args : List (Argument IdParts Token)) (i : ℕ)
    (total : Option RequestError) → (i < length kinds → i < length args → ⊥)
    → first_refusal (argument_faults store (drop i kinds) asked (drop i args)) ≡ total → None ≡ total
no_fault store kinds asked args i total none so_far = sym (ap first_refusal (no_fault_left store kinds asked args i none)) ∙ so_far
