use Rattle.wl_server_model.proofs.OverRuns.Announced.AnnouncedLaw.{each_announces}
use Rattle.wl_server.proofs.laws.registries_announce_what_is_shown.Goals as goal

pub returns : goal.returns
returns g c = record { run = λ table run after leads. each_announces _ table run after leads }
