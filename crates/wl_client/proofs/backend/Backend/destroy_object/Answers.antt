use Rattle.std.proofs.Common.{refl}
use Rattle.wl_client.proofs.Plain.Calls.{destroys_object}
use Rattle.wl_client.proofs.backend.Backend.destroy_object.Goals as goal

pub returns-clause-call : goal.returns-clause-call
returns-clause-call g c = (c.destroy_named.result, refl, c.destroy_named.ensures.refused, c.destroy_named.ensures.destroyed)

pub returns-clause-plain : goal.returns-clause-plain
returns-clause-plain g c = destroys_object _ c.args.id.now c.destroy_named.result _ c.destroy_named.ensures.destroyed
