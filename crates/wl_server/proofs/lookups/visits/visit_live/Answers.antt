use Rattle.std.proofs.Common.{arith, refl, of_calls}
use Rattle.std.proofs.lemmas.List.{nil_from_length}
use Rattle.wl_server_model.proofs.CallSteps.Visiting.{live_first}
use Rattle.wl_server.proofs.lookups.visits.visit_live.Goals as goal
use Rattle.wl_server.proofs.lookups.visits.visit_live.Goals.{in-Some-live_at, in_default-live_at}

pub loop-place-preserved : goal.loop-place-preserved
loop-place-preserved g c = elim c.match-live_at.branch [
  | in-Some-live_at w ↦ (
    rw w.f-is (search of_calls),
    omega (arith, c.loop-place.invariant.1, c.in-Some.ensures.cases.1),
    λ last folds. c.loop-place.invariant.2 last
        (live_first (λ p x q. goal.F-step g p x tt q) c.loop-place.slot c.in-Some.place.now c.loop-place.rest.now c.in-Some.others.now
        c.live_at.result c.loop-place.f c.match-live_at.f last c.in-Some.ensures.cases.0 c.live_at.ensures (rw (w.in-Some-live_at.is, w.f-is) w.f.ensures) folds),
  )
  | in_default-live_at w ↦ (
    rw w.f-is c.loop-place.invariant.0,
    omega (arith, c.loop-place.invariant.1, c.in-Some.ensures.cases.1),
    λ last folds. c.loop-place.invariant.2 last
        (live_first (λ p x q. goal.F-step g p x tt q) c.loop-place.slot c.in-Some.place.now c.loop-place.rest.now c.in-Some.others.now
        c.live_at.result c.loop-place.f c.match-live_at.f last c.in-Some.ensures.cases.0 c.live_at.ensures (rw w.in_default-live_at.is w.f-is) folds),
  )
]

pub returns : goal.returns
returns g c = c.loop-place.invariant.2 c.loop-place.f (rw (nil_from_length _ c.in_default.ensures.cases) refl)
