use Rattle.std.proofs.Common.{◌≡◌, ◌≤◌, length}
use Rattle.wl_bench.specs.Bench.{with_latest}
use Rattle.wl_bench.proofs.latest.Latest.put.Given as goal

abbrev pub invariant-loop-count : goal.invariant-loop-count
invariant-loop-count g l =
    (with_latest l.place l.value l.self.places.items ≡ with_latest l.place l.value l.fn.self.places.items) × (length l.self.places.items ≡ l.count)
    × (l.count ≤ l.place)
