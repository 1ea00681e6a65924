use Rattle.std.proofs.Common.{◌≡◌, ℕ, ◌≤◌, ◌+◌, length}
use Rattle.wl_host_client.specs.Runs.{run_behind}
use Rattle.wl_host_client.proofs.client.runs.run_of.Given as goal

-- the run is the one behind these bytes and descriptors, of as many messages as may still come
abbrev pub invariant-loop : goal.invariant-loop
invariant-loop l =
    (l.size ≤ length l.bytes) × (l.used ≤ l.came)
    × (left : ℕ) × (left + l.counter ≡ l.most)
    × (run_behind l.most l.core l.bytes l.came 0 0 ≡ run_behind left l.core l.bytes l.came l.size l.used)
