use Rattle.wl_host.proofs.Catching.{conserves_sent_caught, sends_caught, sends_nothing}
use Rattle.wl_host.proofs.Conserving.{conserves_caught}
use Rattle.wl_host.proofs.server.Server.sent.Goals as goal

pub returns-in-Ok-clause-sent : goal.returns-in-Ok-clause-sent
returns-in-Ok-clause-sent c = sends_caught _ _ _ _ _ _ _ c.id.ensures.id c.in-Ok.ensures c.take_off.ensures.sent

pub returns-in-Ok-clause-descriptors : goal.returns-in-Ok-clause-descriptors
returns-in-Ok-clause-descriptors c = conserves_sent_caught _ _ _ _ _ _ _ c.id.ensures.id c.in-Ok.ensures c.take_off.ensures.sent

pub returns-in-Err-clause-sent : goal.returns-in-Err-clause-sent
returns-in-Err-clause-sent c = sends_nothing _ _ _ _ _ _ c.id.ensures.id c.in-Err.ensures

pub returns-in-Err-clause-descriptors : goal.returns-in-Err-clause-descriptors
returns-in-Err-clause-descriptors c = conserves_caught _ _ _ _ c.in-Err.ensures
