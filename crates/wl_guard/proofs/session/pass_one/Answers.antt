-- That the first message was passed, or why it was not.
use Rattle.wl_wire.specs.Message.{content}
use Rattle.wl_wire.specs.Table.{message_row}
use Rattle.wl_follow.specs.Objects.{object_of}
use Rattle.wl_guard.specs.Known.{known}
use Rattle.wl_guard.proofs.Passing.{reads_of, steps_of, unread_steps}
use Rattle.wl_guard.proofs.session.pass_one.Goals as goal

pub returns-in-Err : goal.returns-in-Err
returns-in-Err c =
    unread_steps c.args.policy.now c.args.side (known c.args.session.now) c.args.from.now c.read_front.new.from c.args.to.now c.args.released.now.items c.in-Err.reason c.unread.result
    c.read_front.ensures.unchanged (rw c.table.ensures at c.in-Err.ensures.none) c.unread.ensures

pub pass_found-passed-requires-clause-reads : goal.pass_found-passed-requires-clause-reads
pass_found-passed-requires-clause-reads c =
    let found = c.in-Ok.found in
    reads_of _ c.args.session.now.objects.store found.side c.args.side c.args.from.now c.read_front.new.from (object_of found.interface found.version) (message_row found.desc.now)
    (content c.read_front.new.message) c.in-Ok.ensures.side c.read_front.ensures.unchanged (rw c.table.ensures at c.in-Ok.ensures.found)

pub returns : goal.returns
returns c =
    steps_of c.args.policy.now c.in-Ok.found.side c.args.side (known c.args.session.now) _ c.args.from.now c.read_front.new.from c.pass_found-passed.new.from c.args.to.now c.pass_found-passed.new.to
    c.args.released.now.items c.pass_found-passed.new.released.items c.pass_found-passed.result c.in-Ok.ensures.side c.read_front.ensures.unchanged c.pass_found-passed.ensures.steps
