use Rattle.wl_c.proofs.Calling.{did}
use Rattle.wl_c.proofs.client.telling.nb_client_tell_messages.Goals as goal

pub returns-clause-set : goal.returns-clause-set
returns-clause-set c = did _ c.in-Some.ensures.taken c.deref_mut.ensures.value c.put.ensures c.code-2.ensures c.tell_messages-status.ensures.set
