use Rattle.wl_sets.specs.FreeTree.{words_of}
use Rattle.wl_sets.proofs.Trees.{levels_of}
use Rattle.wl_sets.proofs.free_tree.FreeTree.take_least.Goals as goal

pub returns-clause-height : goal.returns-clause-height
returns-clause-height c = levels_of (words_of c.args.self.now.levels.items)
