use Rattle.std.proofs.Common.{◌≡◌, take, map, Some}
use Rattle.wl_bench.specs.Bench.{client_at}
use Rattle.wl_bench.proofs.bench.Bench.clients_at.Given as goal

abbrev pub invariant-loop-slot : goal.invariant-loop-slot
invariant-loop-slot l = map Some l.clients.items ≡ map (client_at l.self) (take l.slot-index l.slots)
