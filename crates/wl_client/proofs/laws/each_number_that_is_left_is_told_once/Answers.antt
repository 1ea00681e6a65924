use Rattle.wl_client.proofs.OverRuns.FailedLaws.{calls_kept}
use Rattle.wl_client.proofs.OverRuns.FreedLaws.{tells_what_left}
use Rattle.wl_client.specs.Steps.{CallOf}
use Rattle.wl_client.proofs.laws.each_number_that_is_left_is_told_once.Goals as goal

pub returns : goal.returns
returns g c = record { every = tells_what_left (CallOf g.T.Transport.sends g.T.Transport.receives) (calls_kept g.T.Transport.sends g.T.Transport.receives) }
