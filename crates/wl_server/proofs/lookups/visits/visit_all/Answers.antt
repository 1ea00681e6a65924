use Rattle.std.proofs.Common.{of_calls, subst}
use Rattle.wl_server_client.specs.Ids.{IdParts}
use Rattle.wl_server.proofs.lookups.visits.visit_all.Goals as goal

pub loop-number-preserved : goal.loop-number-preserved
loop-number-preserved g c = (
  search of_calls,
  λ last folds. c.loop-number.invariant.1 last (rw c.in-Some.ensures.steps
      (c.f.new.self, subst (λ (id : IdParts). goal.F-step g c.loop-number.f id tt c.f.new.self) c.id_at.ensures c.f.ensures, folds)),
)
