use Rattle.wl_server_client.proofs.Readings.DataGiven.{given_held}
use Rattle.wl_server_client.proofs.client.Client.finish_action.Goals as goal

pub returns-in-Some-Some-clause-back : goal.returns-in-Some-Some-clause-back
returns-in-Some-Some-clause-back g c =
    rw (c.in-Some-Some.is-0, c.in-Some-Some.is-1)
    (given_held _ _ c.in-Some-Some.id _ _ c.give_if_kept.ensures.back c.give_if_kept.ensures.given)
