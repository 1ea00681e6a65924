use Rattle.wl_client.proofs.OverRuns.ScriptedLaws.{accept_fault_step, accept_step, arrive_fault_step, arrive_step, step_instead, take_sent_step}
use Rattle.wl_client.proofs.laws.calls_of_a_script_are_steps.Goals as goal

pub returns-clause-arrive : goal.returns-clause-arrive
returns-clause-arrive g c = arrive_step

pub returns-clause-arrive_fault : goal.returns-clause-arrive_fault
returns-clause-arrive_fault g c = arrive_fault_step

pub returns-clause-accept : goal.returns-clause-accept
returns-clause-accept g c = accept_step

pub returns-clause-accept_fault : goal.returns-clause-accept_fault
returns-clause-accept_fault g c = accept_fault_step

pub returns-clause-take_sent : goal.returns-clause-take_sent
returns-clause-take_sent g c = take_sent_step

pub returns-clause-instead : goal.returns-clause-instead
returns-clause-instead g c = step_instead
