use Rattle.std.proofs.Common.{arith}
use Rattle.std.proofs.lemmas.Grind.{common_steps}
use Rattle.wl_server_client.proofs.reading.registry_request.registry_request.Goals as goal
use Rattle.wl_server_client.proofs.Readings.Requesting.{registry_is}

pub returns-clause-responds : goal.returns-clause-responds
returns-clause-responds g c c' to args = grind (arith, common_steps, registry_is)
