use Rattle.std.proofs.Common.{◌-◌, ◌<◌}
use Rattle.wl_link.proofs.Calls.Growth.{Doubled}
use Rattle.wl_link.proofs.limit.grown_size.Given as goal

abbrev pub invariant-doublings : goal.invariant-doublings
invariant-doublings l = Doubled l.limit l.needed l.size l.grown × (0 < l.grown)

abbrev pub decreases-doublings : goal.decreases-doublings
decreases-doublings l = l.needed - l.grown
