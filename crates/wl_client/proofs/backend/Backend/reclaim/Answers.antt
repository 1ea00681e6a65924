use Rattle.std.proofs.Common.{refl}
use Rattle.wl_client.proofs.Plain.Calls.{reclaims_object}
use Rattle.wl_client.proofs.backend.Backend.reclaim.Goals as goal

pub returns-clause-call : goal.returns-clause-call
returns-clause-call g c = (c.reclaim_named.result, refl, c.reclaim_named.ensures.refused, c.reclaim_named.ensures.reclaimed)

pub returns-clause-plain : goal.returns-clause-plain
returns-clause-plain g c = reclaims_object _ c.args.id.now c.reclaim_named.result _ c.reclaim_named.ensures.reclaimed
