-- New ids among the arguments of an event.
use Rattle.std.proofs.Common.{◌≡◌, Bool, true, ◌||◌, List, [], ◌∷◌, IsSome, refl, sym, ap, ◌∙◌, true≢false}
use Rattle.std.specs.List.{list_any}
use Rattle.wl_wire.specs.declared.argument.ArgumentType.{ArgumentType}
use Rattle.wl_wire.specs.declared.argument.ArgumentType.TheVariants as kind
use Rattle.wl_wire.specs.declared.argument.Argument.TheVariants as arg
use Rattle.wl_wire.specs.Argument.{Matches, WireArgument, kind_of, type_of}
use Rattle.wl_wire.specs.Table.{is_new_id}
use Rattle.wl_client.specs.Freeing.{first_new_id}

new_of_kind : (k : ArgumentType) → is_new_id (kind_of k) ≡ is_new_id k
new_of_kind kind.NewId = refl
new_of_kind _ = refl

-- a signature that a new id matches has one
pub new_matches : (kinds : List ArgumentType) (args : List WireArgument) → Matches kinds args → list_any is_new_id kinds ≡ list_any (λ a. is_new_id (type_of a)) args
new_matches [] [] same = refl
new_matches [] (a ∷ args) same = cc
new_matches (k ∷ kinds) [] same = cc
new_matches (k ∷ kinds) (a ∷ args) same =
    ap (λ (b : Bool). b || list_any is_new_id kinds) (sym (new_of_kind k) ∙ ap is_new_id first)
    ∙ ap (λ (b : Bool). is_new_id (type_of a) || b) (new_matches kinds args rest)
  where
    first : kind_of k ≡ type_of a
    first = cc

    rest : Matches kinds args
    rest = cc

-- without a signature there are no arguments
pub nothing_matches : (args : List WireArgument) → Matches [] args → args ≡ []
nothing_matches [] same = refl
nothing_matches (a ∷ args) same = cc

-- the first new id is one of the arguments
pub first_is_there : (args : List WireArgument) → IsSome (first_new_id args) → list_any (λ a. is_new_id (type_of a)) args ≡ true
first_is_there [] some = absurd (true≢false (sym some))
first_is_there (arg.NewId n ∷ args) some = refl
first_is_there (arg.Int z ∷ args) some = first_is_there args some
first_is_there (arg.Uint n ∷ args) some = first_is_there args some
first_is_there (arg.Fixed z ∷ args) some = first_is_there args some
first_is_there (arg.Str text ∷ args) some = first_is_there args some
first_is_there (arg.Object n ∷ args) some = first_is_there args some
first_is_there (arg.Array bytes ∷ args) some = first_is_there args some
first_is_there (arg.Fd token ∷ args) some = first_is_there args some
