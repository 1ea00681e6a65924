use Rattle.std.proofs.Common.{arith}
use Rattle.std.proofs.lemmas.Grind.{common_steps}
use Rattle.wl_client.proofs.backend.Backend.check_and_send.Goals as goal

pub returns-clause-requested : goal.returns-clause-requested
returns-clause-requested g c = grind (arith, common_steps)
