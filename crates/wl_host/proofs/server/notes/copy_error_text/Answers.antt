use Rattle.std.proofs.Common.{arith}
use Rattle.std.proofs.lemmas.Grind.{common_steps}
use Rattle.wl_host.proofs.server.notes.copy_error_text.Goals as goal

pub returns-then-message-text-clause-text : goal.returns-then-message-text-clause-text
returns-then-message-text-clause-text c = grind (arith, common_steps)

pub returns-clause-room : goal.returns-clause-room
returns-clause-room c = grind (arith, common_steps)

pub returns-clause-text : goal.returns-clause-text
returns-clause-text c = grind (arith, common_steps)
