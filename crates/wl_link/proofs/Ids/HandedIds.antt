-- The ids among the arguments of a message.
use Rattle.std.proofs.Common.{◌≡◌, List, [], ◌∷◌, ◌++◌, refl, ap}
use Rattle.wl_wire.specs.declared.argument.Argument.{Argument}
use Rattle.wl_wire.specs.declared.argument.Argument.TheVariants as arg
use Rattle.wl_wire.specs.declared.argument.Token.{Token}
use Rattle.wl_link.specs.Identity.{Found, HandedId, New, argument_ids}

pub argument_ids_both : {I : Type 0} (args others : List (Argument I Token)) → argument_ids (args ++ others) ≡ argument_ids args ++ argument_ids others
argument_ids_both [] others = refl
argument_ids_both (arg.Int _ ∷ args) others = argument_ids_both args others
argument_ids_both (arg.Uint _ ∷ args) others = argument_ids_both args others
argument_ids_both (arg.Fixed _ ∷ args) others = argument_ids_both args others
argument_ids_both (arg.Str _ ∷ args) others = argument_ids_both args others
argument_ids_both (arg.Object id ∷ args) others = ap (λ (ids : List (HandedId _)). Found id ∷ ids) (argument_ids_both args others)
argument_ids_both (arg.NewId id ∷ args) others = ap (λ (ids : List (HandedId _)). New id ∷ ids) (argument_ids_both args others)
argument_ids_both (arg.Array _ ∷ args) others = argument_ids_both args others
argument_ids_both (arg.Fd _ ∷ args) others = argument_ids_both args others
