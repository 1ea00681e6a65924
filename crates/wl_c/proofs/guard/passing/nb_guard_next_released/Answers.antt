use Rattle.wl_c.proofs.Calling.{gave}
use Rattle.wl_c.proofs.guard.passing.nb_guard_next_released.Goals as goal

pub returns-clause-call : goal.returns-clause-call
returns-clause-call c = gave _ c.in-Some.ensures.taken c.deref_mut.ensures.value c.put.ensures c.write_answer.ensures.answered c.next_released-answer.ensures.call
