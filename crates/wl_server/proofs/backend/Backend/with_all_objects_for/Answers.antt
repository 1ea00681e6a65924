use Rattle.std.proofs.Common.{refl}
use Rattle.wl_server.proofs.backend.Backend.with_all_objects_for.Goals as goal

pub returns : goal.returns
returns g c = rw (← c.in-Some.ensures, ← c.stored.view_is) (refl, c.visit_all.ensures)
