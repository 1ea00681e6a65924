-- That the text goes on with the next argument.
use Rattle.std.proofs.Common.{◌≡◌, ◌++◌, ◌+◌, ◌∷◌, [], List, ℕ, ap, sym, ◌∙◌, take}
use Rattle.std.specs.List.{flat_map}
use Rattle.std.specs.String.{string_bytes}
use Rattle.std.proofs.lemmas.List.{flat_map_more, take_more}
use Rattle.wl_wire.specs.Argument.{WireArgument}
use Rattle.wl_wire.specs.LogText.{further_text}
use Rattle.wl_wire.proofs.log_text.push_others.Goals as goal

pub loop-argument-preserved : goal.loop-argument-preserved
loop-argument-preserved g c =
    let i = c.loop-argument.argument-index in
    let others = c.args.others.now in
    let a : WireArgument = c.argument-item.result in
    let write : WireArgument → List ℕ = further_text c.args.table.now (g.K.KnownObjects.interface_of c.args.objects.now) c.args.child in
    let first = string_bytes c.args.text.now in
    let piece : string_bytes c.push_further.new.text ≡ string_bytes c.loop-argument.text ++ write a = c.in_ok-push_further.ensures in
    let more : take (i + 1) others ≡ take i others ++ a ∷ []
    = take_more others i a c.loop-argument-test.true ∙ ap (λ (x : WireArgument). take i others ++ x ∷ []) (sym c.argument-item.is) in
    piece ∙ ap (λ (xs : List ℕ). xs ++ write a) c.loop-argument.invariant ∙ flat_map_more write first (take i others) a
    ∙ ap (λ (xs : List WireArgument). first ++ flat_map write xs) (sym more)
