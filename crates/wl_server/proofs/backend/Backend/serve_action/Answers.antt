use Rattle.std.proofs.Common.{arith, None, Some, ap, refl}
use Rattle.wl_server_model.specs.Dispatch.{answering}
use Rattle.wl_server_model.specs.PartStep.{over}
use Rattle.wl_server_model.proofs.Dispatches.Serving.{serves_handled, serves_last}
use Rattle.wl_server.proofs.backend.Backend.serve_action.Goals as goal

pub returns-in-Err : goal.returns-in-Err
returns-in-Err g c = grind (arith, serves_last, over, answering)

pub returns-in-None : goal.returns-in-None
returns-in-None g c = serves_handled _ _ c.args.id.now _ _ _ _ _ _ c.handle-why.new.self _ None None _ _ _ c.memory_refused-refused.ensures
    c.memory_refused-refused-2.ensures c.in_default.ensures.call (rw c.in-None.is at c.handle-why.ensures) refl c.keep_refused-2.ensures

pub returns-in-Some : goal.returns-in-Some
returns-in-Some g c = serves_handled _ _ c.args.id.now _ _ _ _ _ _ c.handle-why.new.self _ (Some c.in-Some.error) (Some c.fault_of_end.result) _ _ _
    c.memory_refused-refused.ensures c.memory_refused-refused-2.ensures c.in_default.ensures.call c.in-Some.ensures (ap Some c.fault_of_end.ensures)
    c.keep_refused-2.ensures
