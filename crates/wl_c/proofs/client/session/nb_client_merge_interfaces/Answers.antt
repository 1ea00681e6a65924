use Rattle.wl_c.proofs.Calling.{extended}
use Rattle.wl_c.proofs.client.session.nb_client_merge_interfaces.Goals as goal

pub returns-clause-call : goal.returns-clause-call
returns-clause-call c = extended _ c.in-Some.ensures.taken c.deref_mut.ensures.value c.put.ensures c.write_extended.ensures.answered c.extend_interfaces-answer.ensures.call
