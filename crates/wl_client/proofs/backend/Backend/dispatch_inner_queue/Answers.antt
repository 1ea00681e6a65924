use Rattle.std.proofs.Common.{refl}
use Rattle.wl_client.proofs.backend.Backend.dispatch_inner_queue.Goals as goal

pub returns-clause-call : goal.returns-clause-call
returns-clause-call g c = rw (← c.self.view_is) (refl, refl, refl)

pub returns-clause-plain : goal.returns-clause-plain
returns-clause-plain g c = rw (← c.self.view_is) (refl, refl)
