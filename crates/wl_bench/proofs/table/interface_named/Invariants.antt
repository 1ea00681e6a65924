use Rattle.std.proofs.Common.{◌≡◌, ◌+◌, drop}
use Rattle.wl_bench.specs.Bench.{place_of}
use Rattle.wl_bench.proofs.table.interface_named.Given as goal

abbrev pub invariant-loop-place : goal.invariant-loop-place
invariant-loop-place l = place_of l.name l.table ≡ l.place + place_of l.name (drop l.place l.table)
