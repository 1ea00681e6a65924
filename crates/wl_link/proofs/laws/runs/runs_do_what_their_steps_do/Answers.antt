use Rattle.std.proofs.Common.{IsTrue}
use Rattle.wl_link.proofs.OverRuns.RunLaws.{joins, run_one}
use Rattle.wl_link.proofs.laws.runs.runs_do_what_their_steps_do.Goals as goal

pub returns-clause-joined : goal.returns-clause-joined
returns-clause-joined g c = λ makes. joins (λ s call answer refused t. IsTrue (makes s call answer refused t))

pub returns-clause-outcome : goal.returns-clause-outcome
returns-clause-outcome g c = λ makes same. run_one (λ s call answer refused t. IsTrue (makes s call answer refused t)) (λ p q. IsTrue (same p q))
