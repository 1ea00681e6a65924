use Rattle.wl_client.proofs.OverRuns.OutcomeLaws.{call_history_one, call_one, run_one, step_history_one, step_one}
use Rattle.wl_client.proofs.laws.each_run_has_one_outcome.Goals as goal

pub returns-clause-call : goal.returns-clause-call
returns-clause-call g c function receiving = call_one g.T.Transport.sends g.T.Transport.receives function receiving

pub returns-clause-step : goal.returns-clause-step
returns-clause-step g c = step_one

pub returns-clause-run : goal.returns-clause-run
returns-clause-run g c = run_one

pub returns-clause-history : goal.returns-clause-history
returns-clause-history g c function receiving = call_history_one g.T.Transport.sends g.T.Transport.receives function receiving

pub returns-clause-script : goal.returns-clause-script
returns-clause-script g c = step_history_one
