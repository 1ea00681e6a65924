use Rattle.wl_client.proofs.OverRuns.AccountLaws.{is_change, local_calls}
use Rattle.wl_client.proofs.laws.local_calls_are_calls.Goals as goal

pub returns-clause-call : goal.returns-clause-call
returns-clause-call g c = local_calls g.T.Transport.sends g.T.Transport.receives

pub returns-clause-change : goal.returns-clause-change
returns-clause-change g c = is_change g.T.Transport.sends g.T.Transport.receives
