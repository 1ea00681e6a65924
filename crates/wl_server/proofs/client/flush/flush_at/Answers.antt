use Rattle.std.proofs.Common.{refl}
use Rattle.wl_server_model.proofs.CleanupSteps.Outgoing.{flushes_where, not_flushed, other_killed, same_killed}
use Rattle.wl_server.proofs.Touched.Flushed.{quiet_flushed, sent_flushed}
use Rattle.wl_server.proofs.client.flush.flush_at.Goals as goal

pub returns-in-Some-clause-felt : goal.returns-in-Some-clause-felt
returns-in-Some-clause-felt g c = λ slot. rw c.in-Some.is (
  c.flush-answer.new.self,
  flushes_where g.T.Transport.sends c.args.killed c.in-Some.client c.flush-answer.new.self c.flush-answer.result c.is_out_of_memory.result
      (rw (← c.client.view_is) (same_killed _ _ c.if-client-killed.true)) c.is_out_of_memory.ensures c.flush-answer.ensures.flushed,
  refl,
)

pub returns-in-Some-clause-sent : goal.returns-in-Some-clause-sent
returns-in-Some-clause-sent g c = rw c.in-Some.is
    (sent_flushed g.T.Transport.sends c.in-Some.client c.flush-answer.new.self c.flush-answer.result _ c.flush-answer.ensures.flushed)

pub returns-in-Some-clause-quiet : goal.returns-in-Some-clause-quiet
returns-in-Some-clause-quiet g c = rw c.in-Some.is
    (quiet_flushed g.T.Transport.sends c.in-Some.client c.flush-answer.new.self c.flush-answer.result _ c.flush-answer.ensures.flushed c.flush-answer.ensures.times)

pub returns-in_default-clause-felt : goal.returns-in_default-clause-felt
returns-in_default-clause-felt g c = λ slot. rw c.in-Some.is (
  c.in-Some.client,
  not_flushed g.T.Transport.sends c.args.killed c.in-Some.client (rw (← c.client.view_is) (other_killed _ _ c.if-client-killed.false)),
  refl,
)
