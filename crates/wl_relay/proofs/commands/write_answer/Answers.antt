use Rattle.wl_relay.proofs.Answers.{served}
use Rattle.wl_relay.proofs.commands.write_answer.Goals as goal

pub returns-clause-written : goal.returns-clause-written
returns-clause-written g c =
    let held = g.W.Write.contents in
    let log = c.in_ok-write_log.ensures.written in
    let server = c.in_ok-write_sends.ensures in
    let client = c.in_ok-write_sends-2.ensures in
    served c.args.mode c.args.relay.now c.write_log.new.relay c.write_sends.new.relay c.write_sends-2.new.relay log.0 (held c.args.writer.now)
    (held c.write_log.new.writer) (held c.write_sends.new.writer) (held c.write_sends-2.new.writer) (held c.write_all.new.self)
    (held c.flush.new.self) c.requires log.1 log.2 server.sent server.all client.sent client.all c.in_ok-write_all.ensures.bytes
    c.in_ok-flush.ensures.bytes
