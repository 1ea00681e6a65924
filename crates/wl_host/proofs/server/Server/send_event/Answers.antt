use Rattle.std.proofs.Common.{rules}
use Rattle.wl_host.proofs.Handing.{not_sent, sent_conserves}
use Rattle.wl_host.specs.Events.{Passed}
use Rattle.wl_host.proofs.server.Server.send_event.Goals as goal

pub returns-in-Ok-clause-descriptors : goal.returns-in-Ok-clause-descriptors
returns-in-Ok-clause-descriptors c =
    let p : Passed = record { sender = c.args.sender.now; opcode = c.args.opcode; arguments = c.args.arguments.now; bytes = c.args.bytes.now } in
    let l = c.in-Some.ledger.now in
    sent_conserves c.args.self.now c.mark.new.self p c.in-Ok.status c.self.inside.core c.send-sent.new.core c.send-sent.new.sending l (search rules) c.in-Ok.ensures (search rules)

pub returns-in-Err-clause-call : goal.returns-in-Err-clause-call
returns-in-Err-clause-call c =
    let p : Passed = record { sender = c.args.sender.now; opcode = c.args.opcode; arguments = c.args.arguments.now; bytes = c.args.bytes.now } in
    let l = c.in-Some.ledger.now in
    (not_sent c.args.self.now _ p c.in-Err.status c.self.inside.core c.send-sent.new.core c.send-sent.new.sending l (search rules) (search rules) c.in-Err.ensures (search rules)).0

pub returns-in-Err-clause-descriptors : goal.returns-in-Err-clause-descriptors
returns-in-Err-clause-descriptors c =
    let p : Passed = record { sender = c.args.sender.now; opcode = c.args.opcode; arguments = c.args.arguments.now; bytes = c.args.bytes.now } in
    let l = c.in-Some.ledger.now in
    (not_sent c.args.self.now _ p c.in-Err.status c.self.inside.core c.send-sent.new.core c.send-sent.new.sending l (search rules) (search rules) c.in-Err.ensures (search rules)).1
