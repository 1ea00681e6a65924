use Rattle.std.proofs.Common.{arith}
use Rattle.std.proofs.lemmas.Grind.{common_steps}
use Rattle.wl_host.proofs.server.events.send.Goals as goal

pub returns-in-Err-send_event_lent : goal.returns-in-Err-send_event_lent
returns-in-Err-send_event_lent c = grind (arith, common_steps)
