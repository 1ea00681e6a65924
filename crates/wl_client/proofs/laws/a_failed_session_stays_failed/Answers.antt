use Rattle.wl_client.proofs.OverRuns.FailedLaws.{calls_kept, stays_failed}
use Rattle.wl_client.specs.Steps.{CallOf}
use Rattle.wl_client.proofs.laws.a_failed_session_stays_failed.Goals as goal

pub returns : goal.returns
returns g c = record { every = stays_failed (CallOf g.T.Transport.sends g.T.Transport.receives) (calls_kept g.T.Transport.sends g.T.Transport.receives) }
