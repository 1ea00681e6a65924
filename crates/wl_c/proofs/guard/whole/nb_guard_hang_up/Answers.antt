use Rattle.wl_flat.specs.declared.status.Status.TheVariants as status
use Rattle.wl_c.proofs.Calling.{did}
use Rattle.wl_c.proofs.guard.whole.nb_guard_hang_up.Goals as goal

pub returns-clause-call : goal.returns-clause-call
returns-clause-call c = did _ {status = status.Ok} c.in-Some.ensures.taken c.deref_mut.ensures.value c.put.ensures c.code-2.ensures c.hang_up.ensures.call
