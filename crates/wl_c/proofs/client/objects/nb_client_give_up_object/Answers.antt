use Rattle.wl_c.proofs.Calling.{did}
use Rattle.wl_c.proofs.client.objects.nb_client_give_up_object.Goals as goal

pub returns-clause-call : goal.returns-clause-call
returns-clause-call c = did _ c.in-Some.ensures.taken c.deref_mut.ensures.value c.put.ensures c.code-2.ensures c.give_up_object-status.ensures.call
