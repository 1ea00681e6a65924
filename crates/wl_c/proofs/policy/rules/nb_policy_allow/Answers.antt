use Rattle.wl_c.proofs.Answering.{answered}
use Rattle.wl_c.proofs.policy.rules.nb_policy_allow.Goals as goal

pub returns-clause-call : goal.returns-clause-call
returns-clause-call c = answered _ c.in-Some.ensures.taken c.deref_mut.ensures.value c.put.ensures c.number_of.ensures c.allow-answer.ensures.call
