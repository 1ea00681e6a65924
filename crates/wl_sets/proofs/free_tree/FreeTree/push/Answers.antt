use Rattle.std.proofs.Common.{arith}
use Rattle.wl_sets.specs.FreeTree.{words_of}
use Rattle.wl_sets.proofs.Trees.{push_part}
use Rattle.wl_sets.proofs.free_tree.FreeTree.push.Goals as goal

pub returns-then-at-ne0 : goal.returns-then-at-ne0
returns-then-at-ne0 c = record { tree = λ flag past tree. push_part (words_of c.args.self.now.levels.items) flag c.args.at (λ e. omega arith) tree }
