use Rattle.std.proofs.Common.{arith}
use Rattle.wl_server_model.specs.Dispatch.{answering}
use Rattle.wl_server_model.specs.PartStep.{over}
use Rattle.wl_server.proofs.CallSteps.Kept.{with_plain}
use Rattle.wl_server_model.proofs.Dispatches.Serving.{all_served, dispatches_all, one_more, each_none}
use Rattle.wl_server_model.proofs.Plain.Dispatch.{dispatches_leave}
use Rattle.wl_server.proofs.backend.Backend.dispatch_all_clients.Goals as goal

pub loop-client-init : goal.loop-client-init
loop-client-init g c = grind (arith, each_none, over, answering)

pub loop-client-preserved : goal.loop-client-preserved
loop-client-preserved g c = one_more _ _ c.args.clients.now c.loop-client.client-index
    c.client-item.result c.loop-client-test.true c.client-item.is c.loop-client.invariant c.serve.ensures c.total_with-total.ensures

pub returns : goal.returns
returns g c = with_plain (dispatches_leave _ _ c.args.clients.now _ _ _ _ _)
    (dispatches_all _ _ c.args.self.now (all_served _ _ c.args.clients.now c.loop-client.client-index
    (omega (arith, c.loop-client-test.false)) c.loop-client.invariant) c.end_dispatch.ensures)
