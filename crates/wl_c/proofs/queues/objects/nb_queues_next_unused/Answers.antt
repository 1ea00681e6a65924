use Rattle.wl_c.proofs.Calling.{gave}
use Rattle.wl_c.proofs.queues.objects.nb_queues_next_unused.Goals as goal

pub returns-clause-call : goal.returns-clause-call
returns-clause-call c = gave _ c.in-Some.ensures.taken c.deref_mut.ensures.value c.put.ensures c.write_unused.ensures.answered c.next_unused-answer.ensures.call
