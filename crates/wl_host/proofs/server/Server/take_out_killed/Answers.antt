use Rattle.std.proofs.Common.{◌≡◌, true, Err, ap}
use Rattle.wl_host.proofs.Cleaning.{cleaned, not_cleaned}
use Rattle.wl_host.proofs.server.Server.take_out_killed.Goals as goal

pub returns-in-Ok : goal.returns-in-Ok
returns-in-Ok c =
    let may : c.self.inside.may_clean_up ≡ true = cc in
    rw (← c.self.view_is) (cleaned _ c.cleanup.new.self c.in-Ok.gone c.depart_all.new.seats c.in-Ok.ensures.call c.depart_all.ensures may)

pub returns-in-Err : goal.returns-in-Err
returns-in-Err c =
    let may : c.self.inside.may_clean_up ≡ true = cc in
    rw (← c.self.view_is) (not_cleaned _ c.cleanup.new.self c.in-Err.error _ c.in-Err.ensures.call (ap Err c.from.ensures) may)
