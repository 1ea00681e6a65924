-- That what is looked for is still among what was not looked at.
use Rattle.std.proofs.Common.{◌≡◌, length}
use Rattle.wl_follow.specs.Objects.{new_number}
use Rattle.wl_guard.proofs.session.new_number.Given as goal

abbrev pub invariant-loop-rest : goal.invariant-loop-rest
invariant-loop-rest l = new_number l.args ≡ new_number l.rest

abbrev pub decreases-loop-rest : goal.decreases-loop-rest
decreases-loop-rest l = length l.rest
