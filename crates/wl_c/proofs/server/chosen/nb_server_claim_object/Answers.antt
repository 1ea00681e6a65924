use Rattle.wl_c.proofs.Calling.{gave}
use Rattle.wl_c.proofs.server.chosen.nb_server_claim_object.Goals as goal

pub returns-clause-call : goal.returns-clause-call
returns-clause-call c = gave _ c.in-Some.ensures.taken c.deref_mut.ensures.value c.put.ensures c.write_answer.ensures.answered c.claim_object-answer.ensures.call
