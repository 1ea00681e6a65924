use Rattle.std.proofs.Common.{◌≡◌, ◌+◌, subst, sym, ap, ◌∙◌, arith}
use Rattle.wl_sets.specs.FreeTree.{word, IsTree, FindsLeast, lowest_bit, reads_of, words_of}
use Rattle.wl_sets.proofs.Trees.{least_top, levels_of, reads_top}
use Rattle.wl_sets.proofs.free_tree.FreeTree.least.Goals as goal

pub returns-in-Some-clause-least : goal.returns-in-Some-clause-least
returns-in-Some-clause-least c = λ flag count tree.
    let levels = sym c.as_slice.ensures.value ∙ c.in-Some.ensures.cases.0 in
    let (level, over) = subst (λ ls. IsTree flag count (words_of ls)) levels tree in
    subst (FindsLeast flag count) (sym (c.lowest.ensures.value ∙ ap (λ ws. lowest_bit 0 (word ws 0)) c.deref.ensures.value))
    (least_top flag count c.in-Some.words.now.items level (omega arith))

pub returns-in-Some-clause-reads : goal.returns-in-Some-clause-reads
returns-in-Some-clause-reads c =
    let (flag, count, small, tree) = c.requires.tree in
    let levels = sym c.as_slice.ensures.value ∙ c.in-Some.ensures.cases.0 in
    subst (λ ls. c.lowest.new.reads ≡ c.args.reads.now + reads_of c.lowest.result (words_of ls)) (sym levels)
    (reads_top flag count c.args.reads.now c.lowest.new.reads c.lowest.result c.in-Some.words.now.items (words_of c.in-Some.field-0-1.now) (omega arith)
    (subst (λ ls. IsTree flag count (words_of ls)) levels tree) c.lowest.ensures.count)

pub returns-in-Some-clause-height : goal.returns-in-Some-clause-height
returns-in-Some-clause-height c = levels_of (words_of c.args.self.now.levels.items)

pub returns-in_default-clause-height : goal.returns-in_default-clause-height
returns-in_default-clause-height c = levels_of (words_of c.args.self.now.levels.items)
