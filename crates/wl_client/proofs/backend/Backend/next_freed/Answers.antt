use Rattle.std.proofs.Common.{refl}
use Rattle.wl_client.proofs.Freeing.{takes_freed}
use Rattle.wl_client.proofs.backend.Backend.next_freed.Goals as goal

pub returns-clause-call : goal.returns-clause-call
returns-clause-call g c = (c.take_freed.result, refl, c.take_freed.ensures.refused, c.take_freed.ensures.handed)

pub returns-clause-plain : goal.returns-clause-plain
returns-clause-plain g c = takes_freed _ c.take_freed.result _ c.take_freed.ensures.handed
