use Rattle.wl_c.proofs.Calling.{did}
use Rattle.wl_c.proofs.client.sending.nb_client_sent.Goals as goal

pub returns-clause-sent : goal.returns-clause-sent
returns-clause-sent c = did _ c.in-Some.ensures.taken c.deref_mut.ensures.value c.put.ensures c.code-2.ensures c.sent-status.ensures.sent
