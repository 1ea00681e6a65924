use Rattle.wl_link.proofs.Ids.IdentityLaw.{identity_law}
use Rattle.wl_link.proofs.laws.ids.each_id_names_its_own_object.Goals as goal

pub returns : goal.returns
returns g c = identity_law
