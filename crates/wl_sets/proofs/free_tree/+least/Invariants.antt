use Rattle.std.proofs.Common.{length}
use Rattle.wl_sets.proofs.free_tree.+least.Given as goal

abbrev pub decreases-least : goal.decreases-least
decreases-least l = length l.levels.now
