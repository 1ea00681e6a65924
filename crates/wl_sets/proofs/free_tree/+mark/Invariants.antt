use Rattle.std.proofs.Common.{length}
use Rattle.wl_sets.proofs.free_tree.+mark.Given as goal

abbrev pub decreases-mark : goal.decreases-mark
decreases-mark l = length l.levels.now
