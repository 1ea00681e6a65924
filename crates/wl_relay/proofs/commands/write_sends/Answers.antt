use Rattle.std.proofs.Common.{◌≡◌, Ok, true}
use Rattle.wl_relay.proofs.Answers.{sent_next}
use Rattle.wl_relay.proofs.commands.write_sends.Goals as goal

pub loop-preserved : goal.loop-preserved
loop-preserved g c =
    let held = g.W.Write.contents in
    let one : c.write_send.result ≡ Ok true = cc in
    sent_next c.args.mode c.args.side c.args.relay.now c.loop.relay c.write_send.new.relay (held c.args.writer.now) (held c.loop.writer)
    (held c.write_send.new.writer) c.loop.invariant (c.write_send.ensures.sent one)
