use Rattle.wl_server.proofs.CallSteps.Kept.{with_plain}
use Rattle.wl_server_model.proofs.Dispatches.Serving.{dispatches_client}
use Rattle.wl_server_model.proofs.Plain.Dispatch.{dispatch_leaves}
use Rattle.wl_server.proofs.backend.Backend.dispatch_single_client.Goals as goal

pub returns : goal.returns
returns g c = with_plain (dispatch_leaves _ _ c.args.client.now _ _ _ _ _)
    (dispatches_client _ _ c.args.client.now c.args.self.now c.begin_dispatch.ensures c.serve-answer.ensures c.end_dispatch.ensures)
