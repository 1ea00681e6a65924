use Rattle.wl_link.proofs.Ids.EndsLaw.{ends_once_law}
use Rattle.wl_link.proofs.laws.ids.no_object_ends_twice.Goals as goal

pub returns : goal.returns
returns g c = ends_once_law
