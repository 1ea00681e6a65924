use Rattle.std.proofs.Common.{◌≡◌, drop}
use Rattle.wl_flat.specs.Extending.{types_agree}
use Rattle.wl_flat.proofs.extending.types_agree.Given as goal

abbrev pub invariant-loop-at : goal.invariant-loop-at
invariant-loop-at l = types_agree l.there l.said ≡ types_agree (drop l.at l.there) (drop l.at l.said)
