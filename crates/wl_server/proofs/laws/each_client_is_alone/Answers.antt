use Rattle.wl_server_model.proofs.OverRuns.Alone.IsolationLaw.{is_isolated}
use Rattle.wl_server.proofs.laws.each_client_is_alone.Goals as goal

pub returns : goal.returns
returns g c = record { run = λ table run after leads. is_isolated _ table run after leads }
