use Rattle.std.proofs.Common.{◌≡◌, ◌++◌, ◌∷◌, [], ◌∙◌, sym, ap, subst, arith, length}
use Rattle.wl_sets.specs.FreeTree.{IsTree, words_of}
use Rattle.wl_sets.proofs.Trees.{with_top, words_of_append, written}
use Rattle.wl_sets.proofs.free_tree.reserve.Goals as goal

pub returns-clause-tree : goal.returns-clause-tree
returns-clause-tree c = λ flag count tree.
    let items = c.in_ok-push.ensures.items in
    let one = c.reserve.ensures.items in
    let two = c.new-top.ensures.items in
    let same : words_of c.push.new.self.items ≡ words_of c.args.levels.now.items ++ [] ∷ [] =
    ap words_of (items ∙ ap (λ ls. ls ++ c.reserve.new.self ∷ []) (written c.args.levels.now.items c.reserve_levels.new.levels c.args.levels.now.len (omega arith) (c.in_ok-reserve_levels.ensures.len ∙ ap length c.deref_mut.ensures.value)))
    ∙ words_of_append c.reserve_levels.new.levels (c.reserve.new.self ∷ [])
    ∙ ap (λ ls. ls ++ c.reserve.new.self.items ∷ []) (c.in_ok-reserve_levels.ensures.words ∙ ap words_of c.deref_mut.ensures.value)
    ∙ ap (λ ws. words_of c.args.levels.now.items ++ ws ∷ []) (one ∙ two) in
    subst (λ ls. IsTree flag count ls) (sym same) (with_top (words_of c.args.levels.now.items) flag count tree)
