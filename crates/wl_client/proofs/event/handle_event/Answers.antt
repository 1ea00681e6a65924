use Rattle.std.proofs.Common.{arith}
use Rattle.std.proofs.lemmas.Grind.{common_steps}
use Rattle.wl_client.proofs.event.handle_event.Goals as goal

pub convert-requires-clause-can_make : goal.convert-requires-clause-can_make
convert-requires-clause-can_make g c = grind (arith, common_steps)

pub convert-requires-clause-room : goal.convert-requires-clause-room
convert-requires-clause-room g c = grind (arith, common_steps)

pub returns-in_err-convert-clause-handled : goal.returns-in_err-convert-clause-handled
returns-in_err-convert-clause-handled g c = grind (arith, common_steps)

pub returns-then-receiver-clause-handled : goal.returns-then-receiver-clause-handled
returns-then-receiver-clause-handled g c = grind (arith, common_steps)

pub returns-clause-handled : goal.returns-clause-handled
returns-clause-handled g c = grind (arith, common_steps)
