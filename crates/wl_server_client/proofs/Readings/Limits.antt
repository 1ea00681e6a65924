-- Requests that do not pass the limit of objects.
use Rattle.std.proofs.Common.{◌≡◌, ℕ, arith, false, List, [], ◌∷◌, Option, None, Some, refl}
use Rattle.std.specs.List.{list_any}
use Rattle.wl_wire.specs.declared.argument.Argument.TheVariants as arg
use Rattle.wl_wire.specs.Argument.{WireArgument}
use Rattle.wl_server_client.specs.Limited.{is_above, is_new_above, limit_passed}
use Rattle.wl_server_client.specs.Inside.InPlace.{is_beyond}

pub nothing_passed : (limit : Option ℕ) → limit_passed limit [] ≡ None
nothing_passed None = refl
nothing_passed (Some l) = refl

-- neither this argument nor one behind it is a new id above the limit
pub none_beyond : (limit : Option ℕ) (a : WireArgument) (args : List WireArgument) → is_beyond limit a ≡ false → limit_passed limit args ≡ None
    → limit_passed limit (a ∷ args) ≡ None
none_beyond limit a args within others = grind (arith, limit, a, list_any, is_beyond, is_above, is_new_above, limit_passed)

-- the one new id is not above the limit
pub one_within : (limit : Option ℕ) (n : ℕ) → is_above limit n ≡ false → limit_passed limit (arg.NewId n ∷ []) ≡ None
one_within None n within = refl
one_within (Some l) n within = rw within refl
