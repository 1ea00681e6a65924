use Rattle.wl_c.proofs.Calling.{added}
use Rattle.wl_c.proofs.server.session.nb_server_add_interfaces.Goals as goal

pub returns-clause-call : goal.returns-clause-call
returns-clause-call c = added _ c.in-Some.ensures.taken c.deref_mut.ensures.value c.put.ensures c.write_added.ensures.answered c.add_interfaces-answer.ensures.call
