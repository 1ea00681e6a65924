-- Each object is within the policy, from first to last.
use Rattle.std.specs.Prelude.{Bool, List, [], ◌∷◌}
use Rattle.std.proofs.Common.{refl, subst, sym}
use Rattle.wl_wire.specs.declared.interface.InterfaceId.{InterfaceId}
use Rattle.wl_follow.specs.declared.side.Side.{Side}
use Rattle.wl_guard.specs.Closure.{AreWithin, IsClosed}
use Rattle.wl_guard.specs.Known.{Known, nothing_known}
use Rattle.wl_guard.specs.Passages.{Passage}
use Rattle.wl_guard.specs.Policy.{PolicyState}
use Rattle.wl_guard.specs.Runs.{AllPassUnder, AllWithin, Call, Came, GaveBack, HungUp, PassesUnder, WasSent, WithinEach}
use Rattle.wl_guard.proofs.Closed.{first_within, passes_within}

module _ (p : PolicyState) (set : InterfaceId → Bool) (closed : IsClosed p set) where
  within_each : (side : Side) (xs : List Passage) (k k' : Known) (passed : PassesUnder p side k xs k') → AreWithin set k.objects
      → WithinEach set p side k xs k' passed × AreWithin set k'.objects
  within_each side [] k k' passed within =
      let after = subst (λ (x : Known). AreWithin set x.objects) (sym passed) within in (after, after)
  within_each side (x ∷ xs) k k' passed within =
      let one = passed.1 in
      let mid = passes_within p set closed side (x ∷ []) k passed.0 one.0 one.1 (passed.0, one.1, one.2, (refl, refl)) within in
      let rest = within_each side xs passed.0 k' passed.2 mid in
      ((within, rest.0), rest.1)

  all_within : (calls : List Call) (k k' : Known) (passed : AllPassUnder p k calls k') → AreWithin set k.objects → AllWithin set p k calls k' passed
  all_within [] k k' passed within = subst (λ (x : Known). AreWithin set x.objects) (sym passed) within
  all_within (Came side came passages ∷ calls) k k' passed within =
      let here = within_each side passages k passed.0 passed.1 within in
      (here.0, all_within calls passed.0 k' passed.2 here.1)
  all_within (WasSent side out ∷ calls) k k' passed within = all_within calls k k' passed within
  all_within (GaveBack token ∷ calls) k k' passed within = all_within calls k k' passed within
  all_within (HungUp ∷ calls) k k' passed within = all_within calls k k' passed within

pub were_within : (p : PolicyState) (set : InterfaceId → Bool) (calls : List Call) (last : Known) → IsClosed p set
    → (passed : AllPassUnder p nothing_known calls last) → AllWithin set p nothing_known calls last passed
were_within p set calls last closed passed = all_within p set closed calls nothing_known last passed (first_within p set closed)
