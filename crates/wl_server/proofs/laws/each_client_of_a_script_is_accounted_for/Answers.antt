use Rattle.wl_link.specs.ScriptLaws.{script_within_offer}
use Rattle.wl_server_model.proofs.OverRuns.Alone.AccountLaws.{is_accounted_for}
use Rattle.wl_server.proofs.laws.each_client_of_a_script_is_accounted_for.Goals as goal
use Rattle.wl_server_model.proofs.OverRuns.Alone.IsolationLaw.{performed}
use Rattle.wl_server_model.specs.Server.{new_server}

pub returns : goal.returns
returns g c = record {
  history = is_accounted_for _ (record { law = script_within_offer });
  steps = λ table steps after performs.
      let (run, are, leads) = performed _ (new_server table) after steps performs in
      (run, are, leads, is_accounted_for _ (record { law = script_within_offer }) table run after leads);
}
