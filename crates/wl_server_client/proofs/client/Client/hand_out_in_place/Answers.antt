use Rattle.wl_server_client.specs.Inside.Conversion.{objects_of}
use Rattle.wl_server_client.proofs.Readings.InPlace.{request_handed}
use Rattle.wl_server_client.proofs.client.Client.hand_out_in_place.Goals as goal
use Rattle.std.proofs.Common.{refl}

pub returns-clause-handles : goal.returns-clause-handles
returns-clause-handles g c =
    rw (← c.self.view_is, c.open_request.ensures, c.from_parts-id.ensures, c.put_waiting-put.ensures.registries)
    (request_handed _ _ _ _ (rw (← c.self.view_is) at c.requires.live) c.args.front.now (rw (← c.self.view_is) at c.requires.front)
    c.in-Some.made c.in-Some.tokens (objects_of c.put_waiting-put.new.objects) c.put_waiting-put.new.args.items c.in-Some.ensures.put
    c.args.reading.now _ c.skip_message.new.self _ c.skip_message.ensures refl refl c.saturating_add-reading.ensures)
