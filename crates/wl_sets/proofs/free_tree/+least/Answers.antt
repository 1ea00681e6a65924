use Rattle.std.proofs.Common.{◌≡◌, ◌+◌, ◌<◌, length, arith, subst, sym, ap, ◌∙◌, None}
use Rattle.wl_sets.specs.FreeTree.{word, is_set, IsTree, FindsLeast, reads_of, words_of, flags_above, lowest_bit, height}
use Rattle.wl_sets.proofs.Trees.{least_top, least_under, none_in, within_above, is_zero, reads_top, reads_none, height_of, above_more}
use Rattle.wl_sets.proofs.free_tree.+least.Goals as goal

pub returns-then-len-eq1-clause-least : goal.returns-then-len-eq1-clause-least
returns-then-len-eq1-clause-least t c = λ flag count tree.
    let (level, over) = subst (λ ls. IsTree flag count (words_of ls)) c.in-Some.ensures.cases.0 tree in
    subst (FindsLeast flag count) (sym (c.lowest.ensures.value ∙ ap (λ ws. lowest_bit 0 (word ws 0)) c.deref.ensures.value))
    (least_top flag count c.in-Some.level.0.now.items level (omega arith))

pub returns-then-len-eq1-clause-reads : goal.returns-then-len-eq1-clause-reads
returns-then-len-eq1-clause-reads t c =
    let (flag, count, small, tree) = c.requires.tree in
    subst (λ ls. c.lowest.new.reads ≡ c.args.reads.now + reads_of c.lowest.result (words_of ls)) (sym c.in-Some.ensures.cases.0)
    (reads_top flag count c.args.reads.now c.lowest.new.reads c.lowest.result c.in-Some.level.0.now.items (words_of c.in-Some.level.1.now) (omega arith)
    (subst (λ ls. IsTree flag count (words_of ls)) c.in-Some.ensures.cases.0 tree) c.lowest.ensures.count)

pub returns-in-None-least-clause-least : goal.returns-in-None-least-clause-least
returns-in-None-least-clause-least t c = λ flag count tree.
    let (level, over) = subst (λ ls. IsTree flag count (words_of ls)) c.in-Some.ensures.cases.0 tree in
    let words = c.in-Some.level.0.now.items in
    let none = c.in-None-least.ensures.least (λ w. is_set (word words w)) (flags_above (length words)) over in
    none_in flag count words level (λ w l. is_zero (word words w) (none w (within_above (length words) w (omega arith) l)))

pub returns-in-None-least-clause-reads : goal.returns-in-None-least-clause-reads
returns-in-None-least-clause-reads t c =
    let (flag, count, small, tree) = c.requires.tree in
    subst (λ ls. c.least.new.reads ≡ c.args.reads.now + reads_of None (words_of ls)) (sym c.in-Some.ensures.cases.0)
    (reads_none flag count c.args.reads.now c.least.new.reads c.in-Some.level.0.now.items (words_of c.in-Some.level.1.now) (omega arith)
    (subst (λ ls. IsTree flag count (words_of ls)) c.in-Some.ensures.cases.0 tree) c.in-None-least.ensures.reads)

pub lowest-requires-in-Some-least-clause-few : goal.lowest-requires-in-Some-least-clause-few
lowest-requires-in-Some-least-clause-few t c =
    let reads = c.in-Some-least.ensures.reads in
    let few = subst (λ ls. c.args.reads.now + height (words_of ls) < 4294967296) c.in-Some.ensures.cases.0 c.requires.few in
    omega (arith, height_of c.in-Some.level.0.now.items (words_of c.in-Some.level.1.now) (omega arith))

pub least-requires : goal.least-requires
least-requires t c =
    let few = subst (λ ls. c.args.reads.now + height (words_of ls) < 4294967296) c.in-Some.ensures.cases.0 c.requires.few in
    let words = c.in-Some.level.0.now.items in
    let (flag, count, small, tree) = c.requires.tree in
    let (level, over) = subst (λ ls. IsTree flag count (words_of ls)) c.in-Some.ensures.cases.0 tree in
    let up = c.in-Some.ensures.cases.1 in
    let len = level.len in
    let more : 1 < length words = omega arith in (
      omega arith,
      (
        omega (arith, height_of c.in-Some.level.0.now.items (words_of c.in-Some.level.1.now) (omega arith)),
        (λ w. is_set (word words w), flags_above (length words), omega (arith, above_more (length words) more), over),
      ),
    )

pub lowest-requires-clause-few : goal.lowest-requires-clause-few
lowest-requires-clause-few t c =
    let few = subst (λ ls. c.args.reads.now + height (words_of ls) < 4294967296) c.in-Some.ensures.cases.0 c.requires.few in
    omega (arith, height_of c.in-Some.level.0.now.items (words_of c.in-Some.level.1.now) (omega arith))

pub returns-in-Some-least-clause-least : goal.returns-in-Some-least-clause-least
returns-in-Some-least-clause-least t c = λ flag count tree.
    let (level, over) = subst (λ ls. IsTree flag count (words_of ls)) c.in-Some.ensures.cases.0 tree in
    let words = c.in-Some.level.0.now.items in
    subst (FindsLeast flag count) (sym (c.lowest-in-Some-least.ensures.value ∙ ap (λ ws. lowest_bit c.in-Some-least.at (word ws c.in-Some-least.at)) c.deref-in-Some-least.ensures.value))
    (least_under flag count words c.in-Some-least.at level (c.in-Some-least.ensures.least (λ w. is_set (word words w)) (flags_above (length words)) over))
