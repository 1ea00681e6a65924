use Rattle.std.proofs.Common.{◌≡◌, drop}
use Rattle.wl_flat.specs.Joining.{same_interfaces}
use Rattle.wl_flat.proofs.joining.same_interfaces.Given as goal

abbrev pub invariant-loop-at : goal.invariant-loop-at
invariant-loop-at l = same_interfaces l.there l.said ≡ same_interfaces (drop l.at l.there) (drop l.at l.said)
