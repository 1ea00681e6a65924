use Rattle.wl_c.proofs.Answering.{answered}
use Rattle.wl_c.proofs.queues.events.nb_queues_put.Goals as goal

pub returns-clause-call : goal.returns-clause-call
returns-clause-call c = answered _ c.in-Some.ensures.taken c.deref_mut.ensures.value c.put.ensures c.number_of.ensures c.put-answer.ensures.call
