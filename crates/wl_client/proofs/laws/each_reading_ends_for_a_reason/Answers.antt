use Rattle.wl_client.proofs.Plain.ReadingEnds.{reading_ends}
use Rattle.wl_client.proofs.laws.each_reading_ends_for_a_reason.Goals as goal

pub returns : goal.returns
returns g c = λ left before after turns out. reading_ends g.T.Transport.sends g.T.Transport.receives left before after turns out
