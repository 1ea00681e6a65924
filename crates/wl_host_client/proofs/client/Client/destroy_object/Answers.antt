use Rattle.std.proofs.Common.{rules, inr}
use Rattle.wl_host_client.proofs.ClientNotes.{told_notes, untold_notes}
use Rattle.wl_host_client.proofs.client.Client.destroy_object.Goals as goal

-- the answer of the core, and the core before its notes were taken, are the witnesses
pub returns-in-Ok-clause-call : goal.returns-in-Ok-clause-call
returns-in-Ok-clause-call c =
    inr (c.destroy_object.result, c.destroy_object.new.self, search rules, search rules, search rules, search (rules, told_notes))

pub returns-in-Err-clause-call : goal.returns-in-Err-clause-call
returns-in-Err-clause-call c =
    inr (c.destroy_object.result, c.destroy_object.new.self, search rules, search rules, search rules, search (rules, untold_notes))
