-- Each message is judged by what those before it left.
use Rattle.std.specs.Prelude.{◌≡◌, List, [], ◌∷◌, Option, None, Some, IsSome}
use Rattle.std.proofs.Common.{ap, refl, subst, sym, ◌∙◌}
use Rattle.wl_link.specs.Exchange.{Queue, joined}
use Rattle.wl_follow.specs.declared.side.Side.{Side}
use Rattle.wl_follow.specs.declared.side.Side.TheVariants.{Client}
use Rattle.wl_guard.specs.Ends.{StopsBy}
use Rattle.wl_guard.specs.Guard.{GuardState, new_guard, unread}
use Rattle.wl_guard.specs.Known.{Known, nothing_known}
use Rattle.wl_guard.specs.Passages.{Passage, Passes}
use Rattle.wl_guard.specs.Policy.{PolicyState}
use Rattle.wl_guard.specs.Runs.{AllPassUnder, Call, Came, GaveBack, HungUp, Leads, PassesUnder, WasSent}
use Rattle.wl_guard.specs.declared.ending.End.{End}
use Rattle.wl_guard.proofs.Runs.{back_keeps, hang_ends, not_some, nothing_follows, sent_keeps}

module _ (p : PolicyState) where
  one_by_one : (side : Side) (xs : List Passage) (k k' : Known) (q rest : Queue) → Passes p side k q xs k' rest → PassesUnder p side k xs k'
  one_by_one side [] k k' q rest none = none.0
  one_by_one side (x ∷ xs) k k' q rest some = (some.0, (q, some.1, some.2), one_by_one side xs some.0 k' some.1 rest some.3)

  -- after an end none is passed
  none_after : (calls : List Call) (k : Known) (before after : GuardState) → IsSome before.end → Leads p before calls after → AllPassUnder p k calls k
  none_after [] k before after some is = refl
  none_after (Came side came passages ∷ calls) k before after some (mid, (arrives, is), more) = absurd (not_some before.end arrives.begun some)
  none_after (WasSent side out ∷ calls) k before after some (mid, (count, is, out_is), more) =
      none_after calls k mid after (subst (λ (e : Option End). IsSome e) (sym (sent_keeps side count before mid is).1) some) more
  none_after (GaveBack t ∷ calls) k before after some (mid, back, more) =
      none_after calls k mid after (subst (λ (e : Option End). IsSome e) (sym (back_keeps before mid t back).end) some) more
  none_after (HungUp ∷ calls) k before after some (mid, hangs, more) = absurd (not_some before.end hangs.0 some)

  known_stays : (side : Side) (last k : Known) (rest : Queue) (e : Option End) → e ≡ None → StopsBy p side last rest e k → k ≡ last
  known_stays side last k rest None is stops = stops.0
  known_stays side last k rest (Some e) is stops = let no : ⊥ = cc in absurd no

  abbrev Judged : Known → List Call → GuardState → Type 0
  Judged k calls after = (last : Known) × AllPassUnder p k calls last × (after.end ≡ None → last ≡ after.known)

  all_judged : (calls : List Call) (before after : GuardState) → before.end ≡ None → Leads p before calls after → Judged before.known calls after
  all_judged [] before after begun is = (before.known, refl, λ still. sym (ap (λ (g : GuardState). g.known) is))
  all_judged (Came side came passages ∷ calls) before after begun (mid, (arrives, is), more) =
      go mid.end refl (λ begun. all_judged calls mid after begun more)
    where
      k : Known
      k = arrives.at.last

      here : PassesUnder p side before.known passages k
      here = subst (λ (xs : List Passage). PassesUnder p side before.known xs k) is
          (one_by_one side arrives.at.passages before.known k (joined (unread side before) came) (unread side mid) arrives.at.passes)

      go : (e : Option End) → mid.end ≡ e → (mid.end ≡ None → Judged mid.known calls after) → Judged before.known (Came side came passages ∷ calls) after
      go None is_open later =
          let rest = later is_open in
          let same = known_stays side k mid.known (unread side mid) mid.end is_open arrives.at.stops in
          (rest.0, (mid.known, subst (λ (x : Known). PassesUnder p side before.known passages x) (sym same) here, rest.1), rest.2)
      go (Some e) is_ended later =
          let some = subst (λ (x : Option End). IsSome x) (sym is_ended) refl in
          let ended = (nothing_follows p calls mid after side some more).1 in
          (k, (k, here, none_after calls k mid after some more), λ still. absurd (not_some mid.end (sym ended ∙ still) some))
  all_judged (WasSent side out ∷ calls) before after begun (mid, (count, is, out_is), more) =
      let keeps = sent_keeps side count before mid is in
      let rest = all_judged calls mid after (keeps.1 ∙ begun) more in
      (rest.0, subst (λ (k : Known). AllPassUnder p k calls rest.0) keeps.0 rest.1, rest.2)
  all_judged (GaveBack t ∷ calls) before after begun (mid, back, more) =
      let keeps = back_keeps before mid t back in
      let rest = all_judged calls mid after (keeps.end ∙ begun) more in
      (rest.0, subst (λ (k : Known). AllPassUnder p k calls rest.0) keeps.known rest.1, rest.2)
  all_judged (HungUp ∷ calls) before after begun (mid, hangs, more) =
      let some = hang_ends before mid hangs in
      let ended = (nothing_follows p calls mid after Client some more).1 in
      (before.known, none_after calls before.known mid after some more, λ still. absurd (not_some mid.end (sym ended ∙ still) some))

  pub judged : (calls : List Call) (after : GuardState) → Leads p new_guard calls after
      → (last : Known) × AllPassUnder p nothing_known calls last × (after.end ≡ None → last ≡ after.known)
  judged calls after leads = all_judged calls new_guard after refl leads
