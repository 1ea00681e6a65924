use Rattle.std.proofs.Common.{arith}
use Rattle.std.proofs.lemmas.Grind.{common_steps}
use Rattle.std.proofs.lemmas.Bool.{eqb-true, not-false}
use Rattle.wl_server_client.proofs.reading.in_place.sync.waiting_sync.Goals as goal

pub returns : goal.returns
returns g c = grind (arith, common_steps, eqb-true, not-false)
