use Rattle.std.proofs.Common.{◌≡◌, ◌∙◌, [], refl, sym}
use Rattle.std.proofs.lemmas.List.{nil_from_length}
use Rattle.std.specs.Vec.Iter.{into_iter_items}
use Rattle.wl_flat.proofs.extending.lengthen.Goals as goal

pub returns : goal.returns
returns g c =
    let none : into_iter_items c.loop-more.more-iterator ≡ [] =
    nil_from_length _ (sym c.loop-more.more-iterator.rest.ok.0 ∙ c.in-None.ensures.steps.0) in
    c.loop-more.invariant _ _ (rw none (refl, refl))

pub returns-in-Err : goal.returns-in-Err
returns-in-Err g c =
    c.loop-more.invariant _ _ (rw c.in-Some.ensures.steps.0 (_, _, c.in-Err.ensures, rw (c.told_at.ensures, c.from.ensures) (refl, refl)))

pub loop-more-preserved : goal.loop-more-preserved
loop-more-preserved g c =
    λ result after rest. c.loop-more.invariant result after (rw c.in-Some.ensures.steps.0 (_, _, c.in-Ok.ensures, rest))
