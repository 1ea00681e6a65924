use Rattle.wl_client.proofs.OverRuns.NumberLaws.{has_or_left, number_moves}
use Rattle.wl_client.proofs.laws.a_number_is_free_only_once_both_sides_gave_it_up.Goals as goal

pub returns-clause-step : goal.returns-clause-step
returns-clause-step g c = λ before after d n of_client does. number_moves g.T.Transport.sends g.T.Transport.receives n of_client before d after does

pub returns-clause-history : goal.returns-clause-history
returns-clause-history g c =
    λ begun after deeds n x of_client leads there. has_or_left g.T.Transport.sends g.T.Transport.receives n of_client begun deeds after leads x there
