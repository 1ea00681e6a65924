use Rattle.std.proofs.Common.{arith}
use Rattle.wl_link.proofs.Receiving.{received_behind}
use Rattle.wl_link.proofs.buffer.receive_at_front.Goals as goal

pub returns-clause-received : goal.returns-clause-received
returns-clause-received g c =
    received_behind g.T.Transport.receives c.args.transport.now c.rcv_msg.new.self c.args.storage.now c.move_to_front.new.storage c.rcv_msg.new.buffer
    c.args.start c.args.end c.args.tokens.now.items c.rcv_msg.new.tokens.items c.requires.ordered c.requires.within (omega arith) (omega arith) c.move_to_front.ensures
    c.rcv_msg.result c.rcv_msg.ensures.received c.rcv_msg.ensures.lands
