use Rattle.wl_server_model.proofs.Plain.WithinLimit.{reads_within_limit}
use Rattle.wl_server.proofs.laws.no_reading_makes_an_object_above_the_limit.Goals as goal

pub returns : goal.returns
returns g c = λ before after e one. reads_within_limit one
