use Rattle.std.proofs.Common.{length}
use Rattle.wl_sets.proofs.free_tree.+push.Given as goal

abbrev pub decreases-push : goal.decreases-push
decreases-push l = length l.levels.now
