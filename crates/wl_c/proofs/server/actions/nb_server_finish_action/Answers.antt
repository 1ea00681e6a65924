use Rattle.wl_c.proofs.Calling.{did}
use Rattle.wl_c.proofs.server.actions.nb_server_finish_action.Goals as goal

pub returns-clause-call : goal.returns-clause-call
returns-clause-call c = did _ c.in-Some.ensures.taken c.deref_mut.ensures.value c.put.ensures c.code-2.ensures c.finish_action-status.ensures.call
