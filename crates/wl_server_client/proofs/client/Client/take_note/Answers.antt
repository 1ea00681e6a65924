use Rattle.std.proofs.Common.{[], refl}
use Rattle.wl_server_client.proofs.client.Client.take_note.Goals as goal

pub returns-in-Some-clause-first : goal.returns-in-Some-clause-first
returns-in-Some-clause-first g c =
    rw (← c.self.view_is) (record { made = c.pop.ensures.first.0; waiting = []; of_made = c.pop.ensures.first.1; of_waiting = refl })
