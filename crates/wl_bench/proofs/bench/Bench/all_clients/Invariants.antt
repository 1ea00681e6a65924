use Rattle.std.proofs.Common.{◌≡◌, take, map}
use Rattle.wl_bench.specs.Bench.{client_of}
use Rattle.wl_bench.proofs.bench.Bench.all_clients.Given as goal

abbrev pub invariant-loop-seat : goal.invariant-loop-seat
invariant-loop-seat l = l.clients.items ≡ map client_of (take l.seat-index l.seat-items)
