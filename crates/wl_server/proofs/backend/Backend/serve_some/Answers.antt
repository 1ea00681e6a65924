use Rattle.std.proofs.Common.{arith}
use Rattle.std.proofs.lemmas.Grind.{common_steps}
use Rattle.wl_server_model.proofs.Dispatches.Serving.{so_far_more, so_far_none, some_end, some_rounds}
use Rattle.wl_server.proofs.backend.Backend.serve_some.Goals as goal

pub loop-fault-init : goal.loop-fault-init
loop-fault-init g c = grind (arith, common_steps, so_far_none)

pub returns-in-Some : goal.returns-in-Some
returns-in-Some g c = some_end _ _ c.args.id.now c.in-Some.fault c.loop-fault.invariant.so_far c.serve_action.ensures c.in-Some.is

pub returns-then-reading-left : goal.returns-then-reading-left
returns-then-reading-left g c =
    some_rounds _ _ c.args.id.now (so_far_more _ _ c.args.id.now c.loop-fault.invariant.so_far c.serve_action.ensures c.in_default.is)
    c.if-reading-left.true

pub loop-fault-preserved : goal.loop-fault-preserved
loop-fault-preserved g c = grind (arith, common_steps, so_far_more)
