use Rattle.std.proofs.Common.{[]}
use Rattle.wl_host_client.proofs.ClientCatching.{reads_caught, reads_nothing}
use Rattle.wl_flat.proofs.Queues.{conserves_out}
use Rattle.wl_host_client.proofs.client.Client.next_event.Goals as goal

pub returns-in-Ok : goal.returns-in-Ok
returns-in-Ok c =
    let (out, next, conserves) = c.hand_next.ensures in
    (out, reads_caught _ _ _ _ _ _ _ c.in-Ok.ensures.caught next, conserves_out c.in-Ok.ensures.descriptors conserves)

pub returns-in-Err : goal.returns-in-Err
returns-in-Err c = ([], reads_nothing _ _ _ _ c.in-Err.ensures.caught, c.in-Err.ensures.descriptors)
