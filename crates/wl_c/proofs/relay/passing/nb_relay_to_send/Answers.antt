use Rattle.wl_c.proofs.Calling.{did}
use Rattle.wl_c.proofs.relay.passing.nb_relay_to_send.Goals as goal

pub returns-clause-call : goal.returns-clause-call
returns-clause-call c = did _ c.in-Some.ensures.taken c.deref_mut.ensures.value c.put.ensures c.code-2.ensures c.to_send-status.ensures.call
