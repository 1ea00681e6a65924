use Rattle.wl_c.proofs.Answering.{answered}
use Rattle.wl_c.proofs.queues.whole.nb_queues_drop_queue.Goals as goal

pub returns-clause-call : goal.returns-clause-call
returns-clause-call c = answered _ c.in-Some.ensures.taken c.deref_mut.ensures.value c.put.ensures c.number_of.ensures c.drop_queue-answer.ensures.call
