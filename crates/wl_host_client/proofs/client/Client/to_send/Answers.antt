use Rattle.wl_host_client.proofs.ClientCatching.{copies_caught, copies_nothing}
use Rattle.wl_host_client.proofs.client.Client.to_send.Goals as goal

pub returns-in-Ok-clause-copied : goal.returns-in-Ok-clause-copied
returns-in-Ok-clause-copied c =
    let e = c.copy_waiting.ensures in copies_caught _ _ _ _ _ _ _ _ c.in-Ok.ensures.caught e.status e.bytes e.descriptors e.counts

pub returns-in-Err-clause-copied : goal.returns-in-Err-clause-copied
returns-in-Err-clause-copied c = copies_nothing _ _ _ _ _ _ c.in-Err.ensures.caught c.new.ensures
