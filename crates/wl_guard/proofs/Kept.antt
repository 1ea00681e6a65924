-- What is kept of a session, as long as the connection has not ended.
use Rattle.std.specs.Prelude.{◌≡◌, Bool, List, [], ◌∷◌, Option, None, Some, IsSome}
use Rattle.std.proofs.Common.{refl, subst, sym, ◌∙◌}
use Rattle.wl_wire.specs.declared.interface.InterfaceId.{InterfaceId}
use Rattle.wl_link.specs.Exchange.{Queue}
use Rattle.wl_follow.specs.declared.side.Side.{Side}
use Rattle.wl_follow.specs.declared.side.Side.TheVariants.{Client}
use Rattle.wl_guard.specs.Closure.{AreWithin, IsBounded, IsClosed}
use Rattle.wl_guard.specs.Ends.{StopsBy}
use Rattle.wl_guard.specs.Guard.{GuardState, new_guard, unread}
use Rattle.wl_guard.specs.Known.{Known}
use Rattle.wl_guard.specs.Passages.{Passage, Passes}
use Rattle.wl_guard.specs.Policy.{PolicyState}
use Rattle.wl_guard.specs.Runs.{Call, Came, Does, GaveBack, HungUp, Leads, WasSent}
use Rattle.wl_guard.specs.declared.ending.End.{End}
use Rattle.wl_guard.proofs.Closed.{first_bounded, first_within, passes_bounded, passes_within}
use Rattle.wl_guard.proofs.Runs.{all_stays, back_keeps, hang_knows, sent_keeps}

-- without an end, the last that was known is what is known
last_known : (p : PolicyState) (side : Side) (last k : Known) (rest : Queue) (e : Option End) → StopsBy p side last rest e k → e ≡ None → k ≡ last
last_known p side last k rest None stops is = stops.0
last_known p side last k rest (Some e) stops is = let wrong = is in absurd cc

module _ (p : PolicyState) (Inv : Known → Type 0) (kept : (side : Side) (xs : List Passage) (k k' : Known) (q rest : Queue) → Passes p side k q xs k' rest → Inv k → Inv k') where
  call_keeps : (c : Call) (before after : GuardState) → Does p before c after → after.end ≡ None → Inv before.known → Inv after.known
  call_keeps (Came side came passages) before after (arrives, is) begun inv =
      subst (λ (k : Known). Inv k) (sym (last_known p side arrives.at.last after.known (unread side after) after.end arrives.at.stops begun))
      (kept side arrives.at.passages before.known arrives.at.last _ (unread side after) arrives.at.passes inv)
  call_keeps (WasSent side out) before after (count, is, out_is) begun inv = subst (λ (k : Known). Inv k) (sym (sent_keeps side count before after is).0) inv
  call_keeps (GaveBack t) before after back begun inv = subst (λ (k : Known). Inv k) (sym (back_keeps before after t back).known) inv
  call_keeps HungUp before after hangs begun inv = subst (λ (k : Known). Inv k) (sym (hang_knows before after hangs)) inv

  pub calls_keep : (calls : List Call) (before after : GuardState) → Leads p before calls after → after.end ≡ None → Inv before.known → Inv after.known
  calls_keep [] before after is begun inv = subst (λ (g : GuardState). Inv g.known) (sym is) inv
  calls_keep (c ∷ calls) before after (mid, one, more) begun inv = go mid.end refl (λ is. calls_keep calls mid after more begun (call_keeps c before mid one is inv))
    where
      go : (e : Option End) → mid.end ≡ e → (mid.end ≡ None → Inv after.known) → Inv after.known
      go None is next = next is
      go (Some e) is next =
          let rest = all_stays p Client calls mid after (subst (λ (x : Option End). IsSome x) (sym is) refl) more in
          let wrong : Some e ≡ None = sym is ∙ sym rest.end ∙ begun in absurd cc

pub stay_within : (p : PolicyState) (set : InterfaceId → Bool) (calls : List Call) (after : GuardState) → IsClosed p set → Leads p new_guard calls after
    → after.end ≡ None → AreWithin set after.known.objects
stay_within p set calls after closed leads begun =
    calls_keep p (λ k. AreWithin set k.objects) (passes_within p set closed) calls new_guard after leads begun (first_within p set closed)

pub is_bounded : (p : PolicyState) (calls : List Call) (after : GuardState) → Leads p new_guard calls after → after.end ≡ None → IsBounded p after.known
is_bounded p calls after leads begun = calls_keep p (IsBounded p) (passes_bounded p) calls new_guard after leads begun (first_bounded p)
