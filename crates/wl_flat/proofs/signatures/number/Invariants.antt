use Rattle.std.proofs.Common.{◌≡◌, length}
use Rattle.wl_flat.specs.Signatures.{number_said}
use Rattle.wl_flat.proofs.signatures.number.Given as goal

-- the rest says what comes behind the digits that were read
abbrev pub invariant-loop-rest : goal.invariant-loop-rest
invariant-loop-rest l = number_said 0 l.text ≡ number_said l.number l.rest

abbrev pub decreases-loop-rest : goal.decreases-loop-rest
decreases-loop-rest l = length l.rest
