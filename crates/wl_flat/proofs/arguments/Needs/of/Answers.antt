use Rattle.std.proofs.Common.{arith}
use Rattle.std.proofs.lemmas.Grind.{common_steps}
use Rattle.wl_flat.proofs.arguments.Needs.of.Goals as goal

pub loop-arg-preserved : goal.loop-arg-preserved
loop-arg-preserved g c = grind (arith, common_steps)

pub returns-clause-bytes : goal.returns-clause-bytes
returns-clause-bytes g c = grind (arith, common_steps)
