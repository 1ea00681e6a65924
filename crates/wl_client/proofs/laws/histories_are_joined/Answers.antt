use Rattle.wl_client.proofs.OverRuns.AccountLaws.{history_joins, history_run, run_history}
use Rattle.wl_client.specs.Steps.{CallOf}
use Rattle.wl_client.proofs.laws.histories_are_joined.Goals as goal

pub returns-clause-every : goal.returns-clause-every
returns-clause-every g c = history_joins (CallOf g.T.Transport.sends g.T.Transport.receives)

pub returns-clause-run : goal.returns-clause-run
returns-clause-run g c before after run = (run_history before after run, history_run before after run)
