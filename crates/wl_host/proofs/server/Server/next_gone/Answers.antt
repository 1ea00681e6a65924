use Rattle.wl_host.proofs.Conserving.{conserves_first}
use Rattle.wl_host.proofs.server.Server.next_gone.Goals as goal

pub returns-clause-conserves : goal.returns-clause-conserves
returns-clause-conserves c = rw (← c.self.view_is) (conserves_first _ _ c.leave.ensures)
