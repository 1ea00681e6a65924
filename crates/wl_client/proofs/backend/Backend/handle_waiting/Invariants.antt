use Rattle.std.proofs.Common.{◌≤◌, length}
use Rattle.wl_client.specs.Inside.ReadingLoop.{ReadSoFar, Live}
use Rattle.wl_client.proofs.backend.Backend.handle_waiting.Given as goal

-- where what is left may lead, the whole may
abbrev pub invariant-loop-end : goal.invariant-loop-end
invariant-loop-end g l = record {
  inline : 4 ≤ l.event.args.capacity;
  live : Live l.self.session;
  leads : ReadSoFar g.T.Transport.sends g.T.Transport.receives l.fn.self.session l.self.session;
}

abbrev pub decreases-loop-end : goal.decreases-loop-end
decreases-loop-end g l = length l.self.session.link.incoming.bytes
