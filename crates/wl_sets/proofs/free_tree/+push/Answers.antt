use Rattle.std.proofs.Common.{◌≡◌, ◌+◌, ◌<◌, [], ◌∷◌, ◌++◌, length, arith, subst, sym, ap, ◌∙◌, true}
use Rattle.std.proofs.lemmas.Grind.{get_or_default_zero}
use Rattle.wl_sets.specs.FreeTree.{word, is_set, IsLevel, IsTree, words_of, flags_above, is_ready}
use Rattle.wl_sets.proofs.Trees.{push_part, more_word, push_one, push_second, push_more, over_more, past_words, ready_some, ready_up}
use Rattle.wl_sets.proofs.free_tree.+push.Goals as goal

pub returns-then-count-ne0-clause-tree : goal.returns-then-count-ne0-clause-tree
returns-then-count-ne0-clause-tree t c = λ flag past tree. push_part (words_of c.args.levels.now) flag c.args.count (λ e. omega arith) tree

pub returns-then-len-eq1-clause-tree : goal.returns-then-len-eq1-clause-tree
returns-then-len-eq1-clause-tree t c = λ flag past tree.
    let words = c.in-Some.words.now.items in
    let (level, over) = subst (λ ls. IsTree flag c.args.count (words_of ls)) c.in-Some.ensures.cases.0 tree in
    let one : length words ≡ 1 = omega arith in
    let items : c.push_word.new.words.items ≡ words ++ 0 ∷ [] = c.push_word.ensures.items in
    let up = ready_up c.in-Some.words.now c.in-Some.above.now (omega arith) (subst (λ ls. is_ready ls ≡ true) c.in-Some.ensures.cases.0 c.requires.ready) in
    let on = ap is_set (c.index.ensures ∙ get_or_default_zero c.push_word.new.words.items 0 c.index.result.now (omega arith) ∙ ap (λ ws. word ws 0) items) in (
      subst (λ ws. IsLevel flag (c.args.count + 1) ws) (sym items) (more_word flag c.args.count words (omega arith) past level),
      subst (λ ws. IsTree (λ w. is_set (word ws w)) (flags_above (length ws)) (words_of c.push_first.new.levels)) (sym items)
          (subst (λ ls. IsTree (λ w. is_set (word (words ++ 0 ∷ []) w)) (flags_above (length (words ++ 0 ∷ []))) ls) (sym c.push_first.ensures.words)
          (push_second words (words_of c.in-Some.above.now) _ on one (ready_some c.in-Some.above.now up) over)),
    )

pub returns-then-len-gt1-clause-tree : goal.returns-then-len-gt1-clause-tree
returns-then-len-gt1-clause-tree t c = λ flag past tree.
    let words = c.in-Some.words.now.items in
    let (level, over) = subst (λ ls. IsTree flag c.args.count (words_of ls)) c.in-Some.ensures.cases.0 tree in
    let more : 1 < length words = omega arith in
    let len : length words ≡ c.len-len.result = omega arith in
    let items : c.push_word.new.words.items ≡ words ++ 0 ∷ [] = c.push_word.ensures.items in (
      subst (λ ws. IsLevel flag (c.args.count + 1) ws) (sym items) (more_word flag c.args.count words (omega arith) past level),
      subst (λ ws. IsTree (λ w. is_set (word ws w)) (flags_above (length ws)) (words_of c.push.new.levels)) (sym items)
          (push_more words (words_of c.push.new.levels) more
          (subst (λ n. IsTree (λ w. is_set (word words w)) (n + 1) (words_of c.push.new.levels)) (sym len)
          (c.push.ensures.tree (λ w. is_set (word words w)) (λ j l. past_words words j (omega arith))
          (subst (λ n. IsTree (λ w. is_set (word words w)) n (words_of c.in-Some.above.now)) len (over_more words (words_of c.in-Some.above.now) more over))))),
    )

pub returns-else-len-gt1-clause-tree : goal.returns-else-len-gt1-clause-tree
returns-else-len-gt1-clause-tree t c = λ flag past tree.
    let words = c.in-Some.words.now.items in
    let (level, over) = subst (λ ls. IsTree flag c.args.count (words_of ls)) c.in-Some.ensures.cases.0 tree in
    let none : length words ≡ 0 = omega arith in
    let items : c.push_word.new.words.items ≡ words ++ 0 ∷ [] = c.push_word.ensures.items in (
      subst (λ ws. IsLevel flag (c.args.count + 1) ws) (sym items) (more_word flag c.args.count words (omega arith) past level),
      subst (λ ws. IsTree (λ w. is_set (word ws w)) (flags_above (length ws)) (words_of c.in-Some.above.now)) (sym items)
          (push_one words (words_of c.in-Some.above.now) none over),
    )
