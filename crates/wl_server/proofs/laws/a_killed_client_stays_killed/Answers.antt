use Rattle.wl_server_model.proofs.OverRuns.Killed.KilledLaws.{each_stays_killed}
use Rattle.wl_server.proofs.laws.a_killed_client_stays_killed.Goals as goal

pub returns : goal.returns
returns g c = record { run = λ table run after leads. each_stays_killed _ table run after leads }
