use Rattle.wl_server_model.proofs.OverRuns.Ids.IdentityLaws.{each_has_own_ids}
use Rattle.wl_server.proofs.laws.each_id_names_its_own_object.Goals as goal

pub returns : goal.returns
returns g c = record { run = λ table run after leads. each_has_own_ids _ table run after leads }
