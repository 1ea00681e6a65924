-- That each message so far was passed, and why no more was.
use Rattle.wl_guard.specs.Known.{known}
use Rattle.wl_guard.proofs.Passing.{awaiting, broken, passed_nothing, passed_one, without_memory}
use Rattle.wl_guard.proofs.session.pass.Goals as goal

pub messages-init : goal.messages-init
messages-init c = passed_nothing c.args.policy.now c.args.side (known c.args.session.now) c.args.from.now c.args.to.now c.args.released.now.items

pub messages-preserved : goal.messages-preserved
messages-preserved c =
    passed_one c.args.policy.now c.args.side (known c.args.session.now) (known c.messages.session) (known c.pass_one.new.session) c.args.from.now c.messages.from c.pass_one.new.from
    c.args.to.now c.messages.to c.pass_one.new.to c.args.released.now.items c.messages.released.items c.pass_one.new.released.items
    c.messages.invariant (rw c.in-Ok-One.field-0-is at c.in-Ok-One.ensures)

pub returns-in-Ok-Nothing : goal.returns-in-Ok-Nothing
returns-in-Ok-Nothing c =
    awaiting c.args.policy.now c.args.side (known c.args.session.now) (known c.messages.session) (known c.pass_one.new.session) c.args.from.now c.messages.from c.pass_one.new.from
    c.args.to.now c.messages.to c.pass_one.new.to c.args.released.now.items c.messages.released.items c.pass_one.new.released.items
    c.messages.invariant (rw c.in-Ok-Nothing.field-0-is at c.in-Ok-Nothing.ensures)

pub returns-in-Ok-Breach : goal.returns-in-Ok-Breach
returns-in-Ok-Breach c =
    broken c.args.policy.now c.args.side c.in-Ok-Breach.rule (known c.args.session.now) (known c.messages.session) (known c.pass_one.new.session) c.args.from.now c.messages.from c.pass_one.new.from
    c.args.to.now c.messages.to c.pass_one.new.to c.args.released.now.items c.messages.released.items c.pass_one.new.released.items
    c.messages.invariant (rw c.in-Ok-Breach.field-0-is at c.in-Ok-Breach.ensures)

pub returns-in-Err : goal.returns-in-Err
returns-in-Err c =
    without_memory c.args.policy.now c.args.side c.in-Err.e (known c.args.session.now) (known c.messages.session) (known c.pass_one.new.session) c.args.from.now c.messages.from c.pass_one.new.from
    c.args.to.now c.messages.to c.pass_one.new.to c.args.released.now.items c.messages.released.items c.pass_one.new.released.items
    c.messages.invariant c.in-Err.ensures
