use Rattle.std.proofs.Common.{length}
use Rattle.wl_relay.specs.Flow.{to_send}
use Rattle.wl_relay.proofs.Answers.{HasSent}
use Rattle.wl_relay.proofs.commands.write_sends.Given as goal

abbrev pub invariant-loop : goal.invariant-loop
invariant-loop g l = HasSent l.mode l.side l.fn.relay l.relay (g.W.Write.contents l.fn.writer) (g.W.Write.contents l.writer)

-- what is left to be sent
abbrev pub decreases-loop : goal.decreases-loop
decreases-loop g l = length (to_send l.side l.relay).bytes
