use Rattle.std.proofs.Common.{rules, inr}
use Rattle.wl_host_client.proofs.ClientNotes.{told_notes, untold_notes}
use Rattle.wl_host_client.proofs.client.Client.finish.Goals as goal

-- no event is kept; the answer of the core, and the core before its notes were taken, are the witnesses
pub returns-in-Ok-clause-call : goal.returns-in-Ok-clause-call
returns-in-Ok-clause-call c =
    rw (← c.self.view_is, c.if-self.false)
    (inr (c.finish_event.result, c.finish_event.new.self, search rules, search rules, search rules, search (rules, told_notes)))

pub returns-in-Err-clause-call : goal.returns-in-Err-clause-call
returns-in-Err-clause-call c =
    rw (← c.self.view_is, c.if-self.false)
    (inr (c.finish_event.result, c.finish_event.new.self, search rules, search rules, search rules, search (rules, untold_notes)))
