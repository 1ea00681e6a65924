use Rattle.wl_flat.specs.declared.event_queues.EventQueues.{EventQueues}
use Rattle.wl_flat.specs.declared.status.Status.{Status}
use Rattle.wl_flat.specs.declared.status.Status.TheVariants as status
use Rattle.wl_queues.specs.Queues.{Fail}
use Rattle.wl_queues.specs.States.{Calls}
use Rattle.wl_c.proofs.Calling.{did}
use Rattle.wl_c.proofs.queues.whole.nb_queues_fail.Goals as goal

pub returns-clause-call : goal.returns-clause-call
returns-clause-call c =
    did (λ (q : EventQueues) (s : Status) (r : EventQueues). Calls q.core Fail r.core) {status = status.Ok} c.in-Some.ensures.taken c.deref_mut.ensures.value c.put.ensures c.code-2.ensures
    c.fail.ensures.call
