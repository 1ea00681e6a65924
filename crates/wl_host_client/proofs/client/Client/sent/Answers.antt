use Rattle.wl_host_client.proofs.ClientCatching.{conserves_sent_caught, sends_caught, sends_nothing}
use Rattle.wl_host_client.proofs.client.Client.sent.Goals as goal

pub returns-in-Ok-clause-sent : goal.returns-in-Ok-clause-sent
returns-in-Ok-clause-sent c = sends_caught _ _ _ _ c.in-Ok.ensures.caught c.take_off.ensures.sent

pub returns-in-Ok-clause-descriptors : goal.returns-in-Ok-clause-descriptors
returns-in-Ok-clause-descriptors c = conserves_sent_caught _ _ _ _ c.in-Ok.ensures.caught c.take_off.ensures.descriptors

pub returns-in-Err-clause-sent : goal.returns-in-Err-clause-sent
returns-in-Err-clause-sent c = sends_nothing _ _ _ _ c.in-Err.ensures.caught
