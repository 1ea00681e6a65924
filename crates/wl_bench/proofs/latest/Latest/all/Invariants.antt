use Rattle.std.proofs.Common.{◌≡◌, take}
use Rattle.wl_bench.specs.Bench.{all_latest}
use Rattle.wl_bench.proofs.latest.Latest.all.Given as goal

abbrev pub invariant-loop-place : goal.invariant-loop-place
invariant-loop-place g l = l.values.items ≡ all_latest (take l.place-index l.place-items)
