use Rattle.wl_callers.proofs.Finished.{sender_gone}
use Rattle.wl_callers.proofs.finishing.finish_destruction.Goals as goal

pub returns : goal.returns
returns g c = sender_gone _ _ _ _ _ c.client-client.ensures _ c.finish_request.ensures.plain
