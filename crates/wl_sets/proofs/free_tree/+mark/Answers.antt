use Rattle.std.proofs.Common.{◌/◌, ◌<◌, length, arith, subst}
use Rattle.wl_sets.specs.FreeTree.{word, is_set, IsTree, words_of, flags_above}
use Rattle.wl_sets.proofs.Trees.{marked, mark_over, mark_same, mark_top, within_above}
use Rattle.wl_sets.proofs.free_tree.+mark.Goals as goal

pub returns-then-before-word-clause-tree : goal.returns-then-before-word-clause-tree
returns-then-before-word-clause-tree t c = λ flag count inside tree.
    let (level, over) = subst (λ ls. IsTree flag count (words_of ls)) c.in-Some.ensures.cases.0 tree in
    let len = level.len in
    let at_w : c.args.at / 64 < length c.in-Some.words.now.items = omega arith in
    let more : 1 < length c.in-Some.words.now.items = omega arith in (
      marked flag count c.in-Some.words.now.items c.args.at c.index-before.result.now c.with_bit-word.result c.args.is_set inside (omega arith) c.index-before.ensures c.with_bit-word.ensures.here c.with_bit-word.ensures.others level,
      mark_over c.in-Some.words.now.items _ (c.args.at / 64) c.with_bit-word.result at_w more
          (c.mark.ensures.tree (λ w. is_set (word c.in-Some.words.now.items w)) (flags_above (length c.in-Some.words.now.items)) (within_above _ _ more at_w) over),
    )

pub returns-else-before-word-clause-tree : goal.returns-else-before-word-clause-tree
returns-else-before-word-clause-tree t c = λ flag count inside tree.
    let (level, over) = subst (λ ls. IsTree flag count (words_of ls)) c.in-Some.ensures.cases.0 tree in
    let len = level.len in
    let at_w : c.args.at / 64 < length c.in-Some.words.now.items = omega arith in (
      marked flag count c.in-Some.words.now.items c.args.at c.index-before.result.now c.with_bit-word.result c.args.is_set inside (omega arith) c.index-before.ensures c.with_bit-word.ensures.here c.with_bit-word.ensures.others level,
      mark_same c.in-Some.words.now.items _ (c.args.at / 64) c.index-before.result.now c.with_bit-word.result at_w c.index-before.ensures c.if-before-word.false over,
    )

pub returns-else-len-gt1-clause-tree : goal.returns-else-len-gt1-clause-tree
returns-else-len-gt1-clause-tree t c = λ flag count inside tree.
    let (level, over) = subst (λ ls. IsTree flag count (words_of ls)) c.in-Some.ensures.cases.0 tree in (
      marked flag count c.in-Some.words.now.items c.args.at c.index-before.result.now c.with_bit-word.result c.args.is_set inside (omega arith) c.index-before.ensures c.with_bit-word.ensures.here c.with_bit-word.ensures.others level,
      mark_top c.in-Some.words.now.items _ (c.args.at / 64) c.with_bit-word.result (omega arith) over,
    )
