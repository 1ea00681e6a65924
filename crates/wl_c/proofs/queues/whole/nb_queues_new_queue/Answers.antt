use Rattle.wl_c.proofs.Calling.{gave}
use Rattle.wl_c.proofs.queues.whole.nb_queues_new_queue.Goals as goal

pub returns-clause-call : goal.returns-clause-call
returns-clause-call c = gave _ c.in-Some.ensures.taken c.deref_mut.ensures.value c.put.ensures c.write_answer.ensures.answered c.new_queue-answer.ensures.call
