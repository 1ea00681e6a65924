use Rattle.wl_callers.proofs.Offered.{offered}
use Rattle.wl_callers.proofs.announcement.offer.Goals as goal

pub returns : goal.returns
returns g c = offered _ _ _ _ _ _ _ c.create_global.ensures.call c.registries_announce_what_is_shown.ensures.run
