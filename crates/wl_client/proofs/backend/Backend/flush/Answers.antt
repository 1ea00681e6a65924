use Rattle.std.proofs.Common.{refl}
use Rattle.wl_client.proofs.OverRuns.AccountLaws.{calls}
use Rattle.wl_client.proofs.Plain.Calls.{flushes_session}
use Rattle.wl_client.proofs.backend.Backend.flush.Goals as goal

pub returns-clause-call : goal.returns-clause-call
returns-clause-call g c = calls g.T.Transport.sends g.T.Transport.receives _ _ _ _ (c.send_waiting.result, refl, c.send_waiting.ensures.refused, c.send_waiting.ensures.flushed)

pub returns-clause-plain : goal.returns-clause-plain
returns-clause-plain g c = flushes_session g.T.Transport.sends _ c.send_waiting.result _ c.send_waiting.ensures.flushed
