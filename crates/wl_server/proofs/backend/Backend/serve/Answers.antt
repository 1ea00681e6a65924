use Rattle.std.proofs.Common.{arith}
use Rattle.std.proofs.lemmas.Grind.{common_steps}
use Rattle.wl_server_model.proofs.Dispatches.Serving.{all_end, so_far_joins, so_far_none}
use Rattle.wl_server.proofs.backend.Backend.serve.Goals as goal

pub loop-fault-init : goal.loop-fault-init
loop-fault-init g c = grind (arith, common_steps, so_far_none)

pub returns-in-Some : goal.returns-in-Some
returns-in-Some g c = all_end _ _ c.args.id.now c.in-Some.fault c.loop-fault.invariant c.serve_some.ensures c.in-Some.is c.answer_of.ensures

pub loop-fault-preserved : goal.loop-fault-preserved
loop-fault-preserved g c = grind (arith, common_steps, so_far_joins)
