use Rattle.wl_client.proofs.OverRuns.FailedLaws.{calls_kept}
use Rattle.wl_client.proofs.OverRuns.IdentityLaws.{notes_ended}
use Rattle.wl_client.specs.Steps.{CallOf}
use Rattle.wl_client.proofs.laws.each_object_that_ends_is_noted_once.Goals as goal

pub returns : goal.returns
returns g c = record { every = notes_ended (CallOf g.T.Transport.sends g.T.Transport.receives) (calls_kept g.T.Transport.sends g.T.Transport.receives) }
