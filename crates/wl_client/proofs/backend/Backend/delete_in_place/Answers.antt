use Rattle.std.proofs.Common.{◌∙◌, sym}
use Rattle.wl_client.proofs.EventInPlace.{deleted_in_place}
use Rattle.wl_client.proofs.backend.Backend.delete_in_place.Goals as goal

pub returns : goal.returns
returns g c =
    let header = rw (← c.self.view_is) at c.requires in
    rw (← c.self.view_is)
    (deleted_in_place _ _ _ _ _ _ _ c.in-Some.number (sym header.1 ∙ c.if-header-ne-DISPLAY.false) c.in-Some.ensures c.reserve.ensures.stays c.skip_message.ensures
    c.delete_id.ensures.store c.delete_id.ensures.kept c.delete_id.ensures.freed)
