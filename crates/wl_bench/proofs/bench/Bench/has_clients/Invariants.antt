use Rattle.wl_bench.proofs.Slots.{HasSoFar}
use Rattle.wl_bench.proofs.bench.Bench.has_clients.Given as goal

abbrev pub invariant-loop-slot : goal.invariant-loop-slot
invariant-loop-slot l = HasSoFar l.self l.slots l.slot-index
