use Rattle.wl_c.proofs.Calling.{gave_flag}
use Rattle.wl_c.proofs.client.events.nb_client_finish_event_with.Goals as goal

pub returns-clause-call : goal.returns-clause-call
returns-clause-call c = gave_flag _ c.in-Some.ensures.taken c.deref_mut.ensures.value c.put.ensures c.write_flag.ensures.answered c.finish_event_with-answer.ensures.call
