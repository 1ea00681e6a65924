use Rattle.std.proofs.Common.{refl}
use Rattle.wl_client.proofs.Freeing.{sets_keeping}
use Rattle.wl_client.proofs.backend.Backend.keep_freed.Goals as goal

pub returns-clause-call : goal.returns-clause-call
returns-clause-call g c = (refl, c.set_keeping.ensures.refused, c.set_keeping.ensures.set)

pub returns-clause-plain : goal.returns-clause-plain
returns-clause-plain g c = sets_keeping _ c.args.keeps _ c.set_keeping.ensures.set
