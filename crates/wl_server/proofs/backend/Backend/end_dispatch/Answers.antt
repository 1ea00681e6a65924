use Rattle.wl_server_model.specs.PartStep.{over}
use Rattle.wl_server.proofs.backend.Backend.end_dispatch.Goals as goal
use Rattle.std.proofs.Common.{arith}

pub returns : goal.returns
returns g c = grind (arith, over)
