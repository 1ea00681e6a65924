use Rattle.wl_server_model.proofs.CallSteps.OverScripts.{call_or_change, one_over_script, run_of_calls, run_over_script, step_over_script}
use Rattle.wl_server.proofs.laws.calls_over_scripts_are_steps.Goals as goal

pub returns : goal.returns
returns g c = record {
  step = λ before after s answer refused. step_over_script g.G.GlobalHandler.views before s answer refused after;
  entry = λ before after e. one_over_script g.G.GlobalHandler.views before e after;
  run = λ before after run. run_over_script g.G.GlobalHandler.views before run after;
  change = λ before after e. call_or_change g.G.GlobalHandler.views before after e;
  changes = λ before after run. run_of_calls g.G.GlobalHandler.views before run after;
}
