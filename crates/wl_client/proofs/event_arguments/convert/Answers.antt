use Rattle.std.proofs.Common.{arith}
use Rattle.std.proofs.lemmas.Grind.{common_steps}
use Rattle.wl_client.proofs.event_arguments.convert.Goals as goal

pub returns-in_err-converted_arg-clause-converts : goal.returns-in_err-converted_arg-clause-converts
returns-in_err-converted_arg-clause-converts g c = grind (arith, common_steps)

pub loop-arg-preserved : goal.loop-arg-preserved
loop-arg-preserved g c = grind (arith, common_steps)
