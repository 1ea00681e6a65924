use Rattle.std.proofs.Common.{◌≡◌, ◌+◌, ◌∷◌, true, subst, sym}
use Rattle.wl_sets.specs.FreeTree.{IsTree, FindsLeast, TakesLeast, is_one_word, reads_of, words_of}
use Rattle.wl_sets.proofs.Trees.{least_top, one_long, reads_top, takes_top}
use Rattle.wl_sets.proofs.free_tree.take_from_one.Goals as goal

pub returns-in-Some-clause-least : goal.returns-in-Some-clause-least
returns-in-Some-clause-least c = λ flag count tree.
    let words = c.in-Some.words.now.items in
    let one = one_long words (words_of c.in-Some._above.now) (subst (λ ls. is_one_word (words_of ls) ≡ true) c.in-Some.ensures.cases.0 c.requires.one) in
    let (level, over) = subst (λ ls. IsTree flag count (words_of ls)) c.in-Some.ensures.cases.0 tree in
    subst (FindsLeast flag count) (sym c.take_lowest.ensures.value) (least_top flag count words level one)

pub returns-in-Some-clause-reads : goal.returns-in-Some-clause-reads
returns-in-Some-clause-reads c =
    let words = c.in-Some.words.now.items in
    let up = words_of c.in-Some._above.now in
    let one = one_long words up (subst (λ ls. is_one_word (words_of ls) ≡ true) c.in-Some.ensures.cases.0 c.requires.one) in
    let (flag, count, small, past, tree) = c.requires.tree in
    subst (λ ls. c.take_lowest.new.reads ≡ c.args.reads.now + reads_of c.take_lowest.result (words_of ls)) (sym c.in-Some.ensures.cases.0)
    (reads_top flag count c.args.reads.now c.take_lowest.new.reads c.take_lowest.result words up one
    (subst (λ ls. IsTree flag count (words_of ls)) c.in-Some.ensures.cases.0 tree) c.take_lowest.ensures.count)

pub returns-in-Some-clause-taken : goal.returns-in-Some-clause-taken
returns-in-Some-clause-taken c =
    let words = c.in-Some.words.now.items in
    let up = words_of c.in-Some._above.now in
    let one = one_long words up (subst (λ ls. is_one_word (words_of ls) ≡ true) c.in-Some.ensures.cases.0 c.requires.one) in
    subst (λ ls. TakesLeast c.args.end (words_of ls) c.take_lowest.result (c.take_lowest.new.words.items ∷ up)) (sym c.in-Some.ensures.cases.0)
    (takes_top c.args.end words c.take_lowest.new.words.items up c.take_lowest.result one c.take_lowest.ensures.cleared)
