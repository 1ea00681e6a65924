-- That a message of an object that is not known is told without its arguments.
use Rattle.wl_wire.specs.Message.{content}
use Rattle.wl_follow.proofs.Telling.{unknown_read}
use Rattle.wl_follow.proofs.follower.tell_front.Goals as goal

pub returns-in-Err-Unknown-clause-told : goal.returns-in-Err-Unknown-clause-told
returns-in-Err-Unknown-clause-told c =
    unknown_read c.args.table.now c.args.side c.args.objects.now.store c.args.sent.now c.read_front.new.from c.in-Err-Unknown.sender c.in-Err-Unknown.opcode
    (content c.read_front.new.message) c.tell_unknown.result c.tell_unknown.new.sent c.read_front.ensures.unchanged
    (rw c.in-Err-Unknown.field-0-is at c.in-Err-Unknown.ensures.none) c.tell_unknown.ensures
