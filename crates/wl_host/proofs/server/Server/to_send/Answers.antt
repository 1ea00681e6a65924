use Rattle.wl_host.proofs.Catching.{copies_caught, copies_nothing}
use Rattle.wl_host.proofs.Conserving.{conserves_caught}
use Rattle.wl_host.proofs.server.Server.to_send.Goals as goal

pub returns-in-Ok-clause-copied : goal.returns-in-Ok-clause-copied
returns-in-Ok-clause-copied c =
    let e = c.copy_waiting.ensures in copies_caught _ _ _ _ _ _ _ _ _ _ c.id.ensures.id c.in-Ok.ensures e.status e.bytes e.descriptors e.counts

pub returns-in-Ok-clause-conserved : goal.returns-in-Ok-clause-conserved
returns-in-Ok-clause-conserved c = conserves_caught _ _ _ _ c.in-Ok.ensures

pub returns-in-Err-clause-copied : goal.returns-in-Err-clause-copied
returns-in-Err-clause-copied c = copies_nothing _ _ _ _ _ _ _ _ c.id.ensures.id c.in-Err.ensures c.new.ensures

pub returns-in-Err-clause-conserved : goal.returns-in-Err-clause-conserved
returns-in-Err-clause-conserved c = conserves_caught _ _ _ _ c.in-Err.ensures
