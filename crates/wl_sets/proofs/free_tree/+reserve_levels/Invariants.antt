use Rattle.std.proofs.Common.{length}
use Rattle.wl_sets.proofs.free_tree.+reserve_levels.Given as goal

abbrev pub decreases-reserve_levels : goal.decreases-reserve_levels
decreases-reserve_levels l = length l.levels.now
