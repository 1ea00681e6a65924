use Rattle.std.proofs.Common.{arith}
use Rattle.std.proofs.lemmas.Grind.{common_steps}
use Rattle.wl_server_model.proofs.CleanupSteps.Outgoing.{ends_length}
use Rattle.wl_server.proofs.notes.cleanup.count_ends_at.Goals as goal

pub returns-in-Some : goal.returns-in-Some
returns-in-Some g c = grind (arith, common_steps, ends_length)
