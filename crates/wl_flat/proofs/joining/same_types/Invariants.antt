use Rattle.std.proofs.Common.{◌≡◌, drop}
use Rattle.wl_flat.specs.Joining.{same_types}
use Rattle.wl_flat.proofs.joining.same_types.Given as goal

abbrev pub invariant-loop-at : goal.invariant-loop-at
invariant-loop-at l = same_types l.there l.said ≡ same_types (drop l.at l.there) (drop l.at l.said)
