use Rattle.std.proofs.Common.{map}
use Rattle.std.specs.List.{FoldsTo}
use Rattle.wl_server_client.specs.Part.{id_at}
use Rattle.wl_server_model.specs.Inside.Walks.{ids_of}
use Rattle.wl_server.proofs.lookups.visits.visit_all.Given as goal

abbrev pub invariant-loop-number : goal.invariant-loop-number
invariant-loop-number g l =
    goal.F-IsAlwaysCallable g l.f
    × ((last : _) → FoldsTo (λ p x q. goal.F-step g p x tt q) l.f (map (λ e. id_at l.client e.0 e.1) l.all) last
    → FoldsTo (λ p x q. goal.F-step g p x tt q) l.fn.f (ids_of l.client l.objects.store) last)
