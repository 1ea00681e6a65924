use Rattle.wl_server_model.proofs.OverRuns.Log.LogLaws.{each_log}
use Rattle.wl_server.proofs.laws.log_is_what_was_sent.Goals as goal

pub returns : goal.returns
returns g c = record { run = λ table run after leads. each_log _ (record { law = g.met.T.Transport.within_offer }) table run after leads }
