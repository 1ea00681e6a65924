-- That the client is told of its breach, or that there was no memory for that.
use Rattle.wl_guard.specs.Known.{known}
use Rattle.wl_guard.proofs.Endings.{arrived, arrived_untold}
use Rattle.wl_guard.proofs.ending.pass_and_tell.Goals as goal

pub returns-in-Ok : goal.returns-in-Ok
returns-in-Ok c =
    arrived c.args.policy.now c.args.side (known c.args.session.now) (known c.pass_side-end.new.session) c.args.from.now c.pass_side-end.new.from c.args.to.now c.pass_side-end.new.to
    c.args.released.now.items c.pass_side-end.new.released.items
    c.args.back.now c.tell_end.new.to c.pass_side-end.result c.pass_side-end.ensures c.in-Ok.ensures.told

pub returns-in-Err : goal.returns-in-Err
returns-in-Err c =
    arrived_untold c.args.policy.now c.args.side (known c.args.session.now) (known c.pass_side-end.new.session) c.args.from.now c.pass_side-end.new.from c.args.to.now c.pass_side-end.new.to
    c.args.released.now.items c.pass_side-end.new.released.items
    c.args.back.now c.tell_end.new.to c.pass_side-end.result c.pass_side-end.ensures c.in-Err.ensures.unchanged
