use Rattle.std.proofs.Common.{◌≤◌}
use Rattle.wl_client.specs.Inside.ReadingLoop.{Live}
use Rattle.wl_client.proofs.Readings.{So}
use Rattle.wl_client.proofs.backend.Backend.read_event.Given as goal

-- where the receives that are left may lead, all may
abbrev pub invariant-loop-used : goal.invariant-loop-used
invariant-loop-used g l = record {
  inline : 4 ≤ l.event.args.capacity;
  live : Live l.self.session;
  leads : So g.T.Transport.sends g.T.Transport.receives l.fn.self.session l.used l.self.session;
}
