use Rattle.std.proofs.Common.{◌≡◌, take, map}
use Rattle.wl_bench.specs.Bench.{accept_step}
use Rattle.wl_bench.proofs.Making.{MadeSoFar}
use Rattle.wl_bench.proofs.bench.Bench.accept.Given as goal

abbrev pub invariant-loop-count : goal.invariant-loop-count
invariant-loop-count l = MadeSoFar l.fn.self.server (map (accept_step l.client) (take l.count-index l.front)) l.self.server
    × (l.self.clients ≡ l.fn.self.clients) × (l.self.globals ≡ l.fn.self.globals)
