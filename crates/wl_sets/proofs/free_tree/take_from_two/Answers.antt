use Rattle.std.proofs.Common.{◌≡◌, ◌+◌, ◌<◌, ◌∷◌, ◌∙◌, length, true, ap, arith, subst, sym}
use Rattle.wl_sets.specs.FreeTree.{IsTree, TakesLeast, height, is_one_word_above, reads_of, words_of}
use Rattle.wl_sets.proofs.Trees.{closed, few_of_two, one_long, reads_of_two, takes_two}
use Rattle.wl_sets.proofs.free_tree.take_from_two.Goals as goal

pub take_least_of_two-requires : goal.take_least_of_two-requires
take_least_of_two-requires c =
    let words = c.in-Some.words.now.items in
    let tops = c.in-Some-split_first_mut.tops.now.items in
    let up = words_of c.in-Some-split_first_mut._up.now in
    let levels = c.in-Some.ensures.cases.0 ∙ ap (λ ls. c.in-Some.words.now ∷ ls) c.in-Some-split_first_mut.ensures.cases.0 in
    let one = one_long tops up (subst (λ ls. is_one_word_above (words_of ls) ≡ true) levels c.requires.two) in
    let (flag, count, small, past, tree) = c.requires.tree in
    let is_tree = subst (λ ls. IsTree flag count (words_of ls)) levels tree in
    let few = subst (λ ls. c.args.reads.now + height (words_of ls) < 4294967296) levels c.requires.few in
    record {
      top = one;
      few = few_of_two flag count c.args.reads.now words tops up one is_tree few;
      tree = (flag, count, small, past, closed words tops up flag count one is_tree);
    }

pub returns-in-Some-split_first_mut-clause-least : goal.returns-in-Some-split_first_mut-clause-least
returns-in-Some-split_first_mut-clause-least c = λ flag count tree.
    let words = c.in-Some.words.now.items in
    let tops = c.in-Some-split_first_mut.tops.now.items in
    let up = words_of c.in-Some-split_first_mut._up.now in
    let levels = c.in-Some.ensures.cases.0 ∙ ap (λ ls. c.in-Some.words.now ∷ ls) c.in-Some-split_first_mut.ensures.cases.0 in
    let one = one_long tops up (subst (λ ls. is_one_word_above (words_of ls) ≡ true) levels c.requires.two) in
    c.take_least_of_two.ensures.least flag count (closed words tops up flag count one (subst (λ ls. IsTree flag count (words_of ls)) levels tree))

pub returns-in-Some-split_first_mut-clause-reads : goal.returns-in-Some-split_first_mut-clause-reads
returns-in-Some-split_first_mut-clause-reads c =
    let words = c.in-Some.words.now.items in
    let tops = c.in-Some-split_first_mut.tops.now.items in
    let up = words_of c.in-Some-split_first_mut._up.now in
    let levels = c.in-Some.ensures.cases.0 ∙ ap (λ ls. c.in-Some.words.now ∷ ls) c.in-Some-split_first_mut.ensures.cases.0 in
    let one = one_long tops up (subst (λ ls. is_one_word_above (words_of ls) ≡ true) levels c.requires.two) in
    let (flag, count, small, past, tree) = c.requires.tree in
    subst (λ ls. c.take_least_of_two.new.reads ≡ c.args.reads.now + reads_of c.take_least_of_two.result (words_of ls)) (sym levels)
    (reads_of_two flag count c.args.reads.now c.take_least_of_two.new.reads words tops up c.take_least_of_two.result one
    (subst (λ ls. IsTree flag count (words_of ls)) levels tree) c.take_least_of_two.ensures.reads)

pub returns-in-Some-split_first_mut-clause-taken : goal.returns-in-Some-split_first_mut-clause-taken
returns-in-Some-split_first_mut-clause-taken c =
    let words = c.in-Some.words.now.items in
    let tops = c.in-Some-split_first_mut.tops.now.items in
    let up = words_of c.in-Some-split_first_mut._up.now in
    let levels = c.in-Some.ensures.cases.0 ∙ ap (λ ls. c.in-Some.words.now ∷ ls) c.in-Some-split_first_mut.ensures.cases.0 in
    let one = one_long tops up (subst (λ ls. is_one_word_above (words_of ls) ≡ true) levels c.requires.two) in
    let one' : length c.take_least_of_two.new.tops.items ≡ 1 = omega arith in
    subst (λ ls. TakesLeast c.args.end (words_of ls) c.take_least_of_two.result (c.take_least_of_two.new.words.items ∷ c.take_least_of_two.new.tops.items ∷ up)) (sym levels)
    (takes_two c.args.end words tops c.take_least_of_two.new.words.items c.take_least_of_two.new.tops.items up c.take_least_of_two.result one one' c.take_least_of_two.ensures.taken)
