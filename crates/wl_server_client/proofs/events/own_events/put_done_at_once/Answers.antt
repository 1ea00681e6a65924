use Rattle.std.proofs.Common.{[], ◌∷◌, List, refl}
use Rattle.wl_link.specs.Puts.{Said}
use Rattle.wl_server_client.specs.Telling.{delete_message, done_message}
use Rattle.wl_server_client.proofs.events.own_events.put_done_at_once.Goals as goal

pub returns : goal.returns
returns g c = λ serial.
    let said : List Said = done_message (record { number = c.args.number; serial = serial }) ∷ delete_message c.args.number ∷ [] in
    rw c.requires.own ([], said, c.write_numbers.ensures.puts said refl)
