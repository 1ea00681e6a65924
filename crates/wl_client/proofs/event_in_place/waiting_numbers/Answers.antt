use Rattle.std.proofs.Common.{arith}
use Rattle.std.proofs.lemmas.Grind.{common_steps}
use Rattle.wl_client.proofs.event_in_place.waiting_numbers.Goals as goal

pub returns : goal.returns
returns g c = grind (arith, common_steps)
