use Rattle.wl_server_model.proofs.Plain.ReadingEnds.{reading_ends}
use Rattle.wl_server.proofs.laws.each_reading_ends_for_a_reason.Goals as goal

pub returns : goal.returns
returns g c = λ a left before turns out end. reading_ends g.T.Transport.sends g.T.Transport.receives a left before turns out end
