use Rattle.wl_client.proofs.OverRuns.FailedLaws.{calls_kept}
use Rattle.wl_client.proofs.OverRuns.IdentityLaws.{own_ids}
use Rattle.wl_client.specs.Steps.{CallOf}
use Rattle.wl_client.proofs.laws.each_id_names_its_own_object.Goals as goal

pub returns : goal.returns
returns g c = record { every = own_ids (CallOf g.T.Transport.sends g.T.Transport.receives) (calls_kept g.T.Transport.sends g.T.Transport.receives) }
