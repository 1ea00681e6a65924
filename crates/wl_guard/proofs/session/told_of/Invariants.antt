-- That what is looked for is still among what was not looked at.
use Rattle.std.proofs.Common.{◌≡◌, length}
use Rattle.wl_guard.specs.Known.{told_of}
use Rattle.wl_guard.proofs.session.told_of.Given as goal

abbrev pub invariant-loop-rest : goal.invariant-loop-rest
invariant-loop-rest l = told_of l.told l.number ≡ told_of l.rest l.number

abbrev pub decreases-loop-rest : goal.decreases-loop-rest
decreases-loop-rest l = length l.rest
