use Rattle.wl_client.proofs.OverRuns.FailedLaws.{calls_kept}
use Rattle.wl_client.proofs.OverRuns.IdentityLaws.{accounted}
use Rattle.wl_client.specs.Steps.{CallOf}
use Rattle.wl_client.proofs.laws.each_client_is_accounted_for.Goals as goal

pub returns : goal.returns
returns g c = record { every = accounted (CallOf g.T.Transport.sends g.T.Transport.receives) (calls_kept g.T.Transport.sends g.T.Transport.receives) }
