use Rattle.wl_c.proofs.Calling.{did}
use Rattle.wl_c.proofs.client.sending.nb_client_to_send.Goals as goal

pub returns-clause-copied : goal.returns-clause-copied
returns-clause-copied c = did _ c.in-Some.ensures.taken c.deref_mut.ensures.value c.put.ensures c.code-2.ensures c.to_send-status.ensures.copied
