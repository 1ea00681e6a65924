use Rattle.std.proofs.Common.{rules}
use Rattle.wl_host_client.proofs.ClientCatching.{conserves_left}
use Rattle.wl_host_client.proofs.client.Client.take_off.Goals as goal

pub returns-clause-sent : goal.returns-clause-sent
returns-clause-sent c = search rules

pub returns-clause-descriptors : goal.returns-clause-descriptors
returns-clause-descriptors c = conserves_left _ _ _ (returns-clause-sent c)
