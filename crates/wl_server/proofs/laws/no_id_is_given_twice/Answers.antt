use Rattle.wl_server_model.proofs.OverRuns.Ids.GivenLaws.{gives_once}
use Rattle.wl_server.proofs.laws.no_id_is_given_twice.Goals as goal

pub returns : goal.returns
returns g c = record { run = λ table run after leads. gives_once _ table run after leads }
