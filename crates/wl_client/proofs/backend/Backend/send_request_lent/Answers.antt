use Rattle.std.proofs.Common.{refl}
use Rattle.wl_client.proofs.OverRuns.AccountLaws.{calls}
use Rattle.wl_client.proofs.Plain.Sending.{sends_request}
use Rattle.wl_client.proofs.backend.Backend.send_request_lent.Goals as goal

pub returns-clause-call : goal.returns-clause-call
returns-clause-call g c = calls g.T.Transport.sends g.T.Transport.receives _ _ _ _ (c.check_and_send.result, refl, c.check_and_send.ensures.refused, c.check_and_send.ensures.requested)

pub returns-clause-plain : goal.returns-clause-plain
returns-clause-plain g c = sends_request g.T.Transport.sends _ _ _ _ _ _ c.check_and_send.ensures.requested
