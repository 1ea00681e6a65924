use Rattle.std.proofs.Common.{◌<◌, length, not, is_some, sym, subst, arith}
use Rattle.wl_sets.specs.FreeTree.{IsTree, changed, words_of}
use Rattle.wl_link.specs.Inside.PlaceList.{free_flag}
use Rattle.wl_link.proofs.FreePlaces.{marks_set}
use Rattle.wl_link.proofs.object_range.ObjectRange.remove.Goals as goal

pub returns-then-at-len-clause-free : goal.returns-then-at-len-clause-free
returns-then-at-len-clause-free g c =
    let places = c.args.self.now.slots.items in
    let levels = c.mark.new.self.levels.items in
    let inside : c.args.at < length places = omega (arith, c.if-at-len.true, c.len.ensures) in
    marks_set places c.args.at c.take-object.new.self levels inside c.requires.small
    (subst (λ x. IsTree (changed (free_flag places) c.args.at (not (is_some x))) (length places) (words_of levels)) (sym c.take-object.ensures.after)
    (c.mark.ensures.tree (free_flag places) (length places) inside c.requires.tree))
