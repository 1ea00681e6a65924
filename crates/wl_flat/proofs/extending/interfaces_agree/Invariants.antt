use Rattle.std.proofs.Common.{◌≡◌, drop}
use Rattle.wl_flat.specs.Extending.{interfaces_agree}
use Rattle.wl_flat.proofs.extending.interfaces_agree.Given as goal

abbrev pub invariant-loop-at : goal.invariant-loop-at
invariant-loop-at l = interfaces_agree l.there l.said ≡ interfaces_agree (drop l.at l.there) (drop l.at l.said)
