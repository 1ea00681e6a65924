use Rattle.wl_server_model.proofs.OverRuns.Outcome.DispatchLaws.{dispatch_one, dispatches_one, spared_dispatch_one, spared_dispatches_one}
use Rattle.wl_server_model.proofs.OverRuns.Outcome.MoveLaws.{transport_determined}
use Rattle.wl_server.proofs.laws.each_dispatch_has_one_outcome.Goals as goal

pub returns : goal.returns
returns g c = record {
  client = λ function receive_function ordered acts. dispatch_one _
      (transport_determined _ _ g.G.GlobalHandler.views function receive_function) ordered _ acts;
  several = λ function receive_function ordered acts. dispatches_one _
      (transport_determined _ _ g.G.GlobalHandler.views function receive_function) ordered _ acts;
  spared_client = λ function receive_function ordered spared acts. spared_dispatch_one _
      (transport_determined _ _ g.G.GlobalHandler.views function receive_function) ordered _ spared acts;
  spared_several = λ function receive_function ordered spared acts. spared_dispatches_one _
      (transport_determined _ _ g.G.GlobalHandler.views function receive_function) ordered _ spared acts;
}
