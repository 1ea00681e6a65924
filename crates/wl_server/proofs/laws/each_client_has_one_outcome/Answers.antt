use Rattle.wl_server_model.proofs.OverRuns.Outcome.MoveLaws.{scripts_determined, transport_determined}
use Rattle.wl_server_model.proofs.OverRuns.Outcome.OfferLaws.{offers_one}
use Rattle.wl_server_model.proofs.OverRuns.Outcome.PartOutcome.{call_one}
use Rattle.wl_server_model.proofs.OverRuns.Outcome.RunOutcome.{alone_one, client_one}
use Rattle.wl_server.proofs.laws.each_client_has_one_outcome.Goals as goal

pub returns : goal.returns
returns g c = record {
  call = λ function receive_function id offer before after after' call call' did did'.
      call_one _ (transport_determined _ _ g.G.GlobalHandler.views function receive_function) id offer before did did' after after' call call';
  alone = λ function receive_function. alone_one _ (transport_determined _ _ g.G.GlobalHandler.views function receive_function);
  client = λ function receive_function. client_one _ (transport_determined _ _ g.G.GlobalHandler.views function receive_function);
  offer = offers_one _;
  script = let known = scripts_determined g.G.GlobalHandler.views in (
    λ id offer before after after' call call' did did'. call_one _ known id offer before did did' after after' call call',
    alone_one _ known,
    client_one _ known,
    offers_one _,
  );
}
