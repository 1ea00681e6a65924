use Rattle.std.proofs.Common.{◌≡◌, ◌++◌, take, map}
use Rattle.wl_bench.specs.Bench.{take_step}
use Rattle.wl_bench.proofs.bench.push_takes.Given as goal

abbrev pub invariant-loop-client : goal.invariant-loop-client
invariant-loop-client l = l.steps.items ≡ l.fn.steps.items ++ map take_step (take l.client-index l.clients)
