use Rattle.std.proofs.Common.{◌≡◌, ◌∙◌, [], sym}
use Rattle.std.proofs.lemmas.List.{nil_from_length}
use Rattle.std.specs.Iterator.Adapters.{enumerate_source}
use Rattle.std.specs.Vec.Iter.{into_iter_items}
use Rattle.wl_flat.proofs.RowsExtend.{parts_end}
use Rattle.wl_flat.proofs.extending.parts_of.Goals as goal

pub returns : goal.returns
returns c =
    let none : into_iter_items (enumerate_source c.loop-at.at-iterator) ≡ [] =
    nil_from_length _ (sym (enumerate_source c.loop-at.at-iterator).rest.ok.0 ∙ c.in-None.ensures.steps.0.0) in
    sym (c.loop-at.invariant ∙ parts_end _ _ _ _ none)
