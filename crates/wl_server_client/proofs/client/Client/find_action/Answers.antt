use Rattle.std.proofs.Common.{arith}
use Rattle.std.proofs.lemmas.Grind.{common_steps}
use Rattle.wl_server_client.proofs.Readings.OneMessage.{killed_done, live_is, open_done, reading_done}
use Rattle.wl_server_client.proofs.client.Client.find_action.Goals as goal

pub returns-then-is_open-clause-does : goal.returns-then-is_open-clause-does
returns-then-is_open-clause-does g c = grind (arith, common_steps, open_done)

pub returns-then-self-clause-does : goal.returns-then-self-clause-does
returns-then-self-clause-does g c = grind (arith, common_steps, killed_done)

pub returns-in-Err-clause-does : goal.returns-in-Err-clause-does
returns-in-Err-clause-does g c = grind (arith, common_steps, reading_done, live_is)

pub returns-clause-does : goal.returns-clause-does
returns-clause-does g c = grind (arith, common_steps, reading_done, live_is)
