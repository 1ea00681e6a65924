use Rattle.std.proofs.Common.{◌≡◌, ◌+◌, length}
use Rattle.std.specs.List.{FoldsTo}
use Rattle.wl_server_model.specs.Lookups.{live_from}
use Rattle.wl_server.proofs.lookups.visits.visit_live.Given as goal

abbrev pub invariant-loop-place : goal.invariant-loop-place
invariant-loop-place g l =
    goal.F-IsAlwaysCallable g l.f
    × (l.slot + length l.rest ≡ length l.fn.clients)
    × ((last : _) → FoldsTo (λ p x q. goal.F-step g p x tt q) l.f (live_from l.slot l.rest) last
    → FoldsTo (λ p x q. goal.F-step g p x tt q) l.fn.f (live_from 0 l.fn.clients) last)

abbrev pub decreases-loop-place : goal.decreases-loop-place
decreases-loop-place g l = length l.rest
