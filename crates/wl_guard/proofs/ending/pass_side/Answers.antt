-- That the messages are passed up to the end.
use Rattle.wl_guard.specs.Known.{known}
use Rattle.wl_guard.proofs.Endings.{ends_by, ends_if, ends_so}
use Rattle.wl_guard.proofs.ending.pass_side.Goals as goal

pub returns-in-Ok-Some : goal.returns-in-Ok-Some
returns-in-Ok-Some c =
    ends_by c.args.policy.now c.args.side (known c.args.session.now) (known c.pass.new.session) c.args.from.now c.pass.new.from c.args.to.now c.pass.new.to
    c.args.released.now.items c.pass.new.released.items
    c.in-Ok-Some.rule c.breach_at.result (rw c.in-Ok-Some.field-0-is at c.in-Ok-Some.ensures) c.breach_at.ensures.sides c.breach_at.ensures.front

pub returns-in-Ok-None : goal.returns-in-Ok-None
returns-in-Ok-None c =
    ends_if c.args.policy.now c.args.side (known c.args.session.now) (known c.pass.new.session) c.args.from.now c.pass.new.from c.args.to.now c.pass.new.to
    c.args.released.now.items c.pass.new.released.items
    c.hoarded.result (rw c.in-Ok-None.field-0-is at c.in-Ok-None.ensures) c.hoarded.ensures

pub returns-in-Err : goal.returns-in-Err
returns-in-Err c =
    ends_so c.args.policy.now c.args.side (known c.args.session.now) (known c.pass.new.session) c.args.from.now c.pass.new.from c.args.to.now c.pass.new.to
    c.args.released.now.items c.pass.new.released.items
    c.in-Err.field-0 c.in-Err.ensures
