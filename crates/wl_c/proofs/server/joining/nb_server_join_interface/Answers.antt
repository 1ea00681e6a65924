use Rattle.wl_c.proofs.Calling.{joined}
use Rattle.wl_c.proofs.server.joining.nb_server_join_interface.Goals as goal

pub returns-clause-call : goal.returns-clause-call
returns-clause-call c = joined _ c.in-Some.ensures.taken c.deref_mut.ensures.value c.put.ensures c.write_joined.ensures.answered c.join_interface-answer.ensures.call
