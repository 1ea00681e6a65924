use Rattle.wl_link.proofs.Calls.HandOnLaws.{relay_law}
use Rattle.wl_link.proofs.laws.calls.what_came_in_leaves.Goals as goal

pub returns : goal.returns
returns g c = relay_law g.R.Transport.receives g.S.Transport.sends (record { law = g.met.S.Transport.within_offer })
