use Rattle.wl_client.proofs.OverRuns.AccountLaws.{call_history, call_or_change, call_step, history_of_calls}
use Rattle.wl_client.proofs.laws.calls_over_scripts_are_steps.Goals as goal

pub returns-clause-step : goal.returns-clause-step
returns-clause-step g c = call_step

pub returns-clause-history : goal.returns-clause-history
returns-clause-history g c = call_history

pub returns-clause-change : goal.returns-clause-change
returns-clause-change g c = call_or_change

pub returns-clause-changes : goal.returns-clause-changes
returns-clause-changes g c = history_of_calls
