use Rattle.std.proofs.Common.{arith}
use Rattle.std.proofs.lemmas.Grind.{common_steps}
use Rattle.wl_host.proofs.server.seats.next_left.Goals as goal

pub loop-queue-preserved : goal.loop-queue-preserved
loop-queue-preserved c = grind (arith, common_steps)
