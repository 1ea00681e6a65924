-- The law of an id that names an object at some point of a run.
use Rattle.std.proofs.Common.{◌≡◌, ◌≢◌, ℕ, ◌+◌, ◌≤◌, true, cond, List, [], ◌∷◌, ◌++◌, Option, None, Some, is_some, IsSome, refl, sym, ap, subst, ◌∙◌, true≢false, arith}
use mathlib.Core.Logic.{inl, inr}
use Rattle.std.proofs.lemmas.Bool.{cases_eq, eq-eqb}
use Rattle.wl_link.specs.declared.object.Object.{Object}
use Rattle.wl_link.specs.Store.{held, removed, rewritten}
use Rattle.wl_link.specs.Identity.{Birth, Births, Born, Change, Changes, Ended, Gone, Id, Made, NamesOwn, Objects, RunLeads, StepLeads, Wrote, at_number, births_in, births_over, display_born, first_objects, names, with_made}
use Rattle.wl_link.specs.Named.{NamedLaw, NoneAgainLaw}
use Rattle.wl_link.proofs.Ids.StoreLaws.{removed_here, removed_other, rewritten_here, rewritten_other, stored_here, stored_other}
use Rattle.wl_link.proofs.Ids.IdentityLaw.{Lasts, has_birth, later_step, lasts_begun, lasts_in, lasts_made, lasts_over, named_parts, named_serial, names_at}

-- ---- births by number do not depend on the ids that were made

module _ {D : Type 0} where
  numbers_in : (next : Birth) (b c : Births) (changes : List (Change D)) → b.of_number ≡ c.of_number
      → (births_in next b changes).of_number ≡ (births_in next c changes).of_number
  numbers_in next b c [] same = same
  numbers_in next b c (Born n x ∷ rest) same =
      numbers_in (record next { place = next.place + 1 }) (record b { of_number = at_number b.of_number n (Some next) })
      (record c { of_number = at_number c.of_number n (Some next) }) rest (ap (λ f. at_number f n (Some next)) same)
  numbers_in next b c (Gone n ∷ rest) same =
      numbers_in next (record b { of_number = at_number b.of_number n None }) (record c { of_number = at_number c.of_number n None }) rest
      (ap (λ f. at_number f n None) same)
  numbers_in next b c (Wrote n x ∷ rest) same = numbers_in next b c rest same
  numbers_in next b c (Ended n x None ∷ rest) same =
      numbers_in next (record b { of_number = at_number b.of_number n None }) (record c { of_number = at_number c.of_number n None }) rest
      (ap (λ f. at_number f n None) same)
  numbers_in next b c (Ended n x (Some y) ∷ rest) same = numbers_in next b c rest same
  numbers_in next b c (Made id ∷ rest) same =
      numbers_in next (with_made b id (b.of_number id.number)) (with_made c id (c.of_number id.number)) rest
      (made_alike b id (b.of_number id.number) ∙ same ∙ sym (made_alike c id (c.of_number id.number)))
    where
      made_alike : (births : Births) (id : Id) (o : Option Birth) → (with_made births id o).of_number ≡ births.of_number
      made_alike births id None = refl
      made_alike births id (Some x) = refl

  numbers_over : (step : ℕ) (b c : Births) (run : List (List (Change D))) → b.of_number ≡ c.of_number
      → (births_over step b run).of_number ≡ (births_over step c run).of_number
  numbers_over step b c [] same = same
  numbers_over step b c (changes ∷ rest) same =
      numbers_over (step + 1) (births_in (record { step = step; place = 0 }) b changes) (births_in (record { step = step; place = 0 }) c changes) rest
      (numbers_in (record { step = step; place = 0 }) b c changes same)

module _ {D : Type 0} (serial_of : D → ℕ) where
  -- ---- from the point on at which the id names an object

  abbrev StaysFrom : ℕ → Births → List (List (Change D)) → List (List (Change D)) → Objects D → Id → Type 0
  StaysFrom step births done later after id =
      (birth : Birth) × ((births_over step births done).of_number id.number ≡ Some birth)
      × NamesOwn serial_of (births_over step births (done ++ later)).of_number after.store id birth

  -- it is as if the id were made at this point
  named_now : (step : ℕ) (births : Births) (mid after : Objects D) (later : List (List (Change D))) → Lasts serial_of (record { step = step; place = 0 }) births mid
      → RunLeads serial_of mid later after → (id : Id) → IsSome (names serial_of id mid.store) → StaysFrom step births [] later after id
  named_now step births mid after later lasts leads id named =
      go (births.of_number id.number) refl (has_birth serial_of (record { step = step; place = 0 }) births mid id lasts named)
    where
      go : (o : Option Birth) → births.of_number id.number ≡ o → is_some (births.of_number id.number) ≡ true → StaysFrom step births [] later after id
      go None at some = absurd (true≢false (sym some ∙ ap is_some at))
      go (Some b) at some =
          let made = lasts_made serial_of (record { step = step; place = 0 }) births mid id (Some b) lasts named at in
          let whole = lasts_over serial_of step (with_made births id (Some b)) mid after later made leads in
          let own = (whole.lasts.made id b (whole.still (id, b) (0, omega arith, refl))).own in (
            b,
            at,
            subst (λ (f : ℕ → Option Birth). NamesOwn serial_of f after.store id b)
                (numbers_over step (with_made births id (Some b)) births later refl) own,
          )

  named_after : (step : ℕ) (births : Births) (s mid after : Objects D) (done later : List (List (Change D)))
      → Lasts serial_of (record { step = step; place = 0 }) births s → RunLeads serial_of s done mid → RunLeads serial_of mid later after
      → (id : Id) → IsSome (names serial_of id mid.store) → StaysFrom step births done later after id
  named_after step births s mid after [] later lasts same leads id named =
      named_now step births mid after later (subst (λ (o : Objects D). Lasts serial_of (record { step = step; place = 0 }) births o) (sym same) lasts) leads id named
  named_after step births s mid after (changes ∷ done) later lasts (between, first, others) leads id named =
      let births' = births_in (record { step = step; place = 0 }) births changes in
      let one = lasts_in serial_of (record { step = step; place = 0 }) births s between changes lasts first in
      let now = later_step serial_of one.last births' between (step + 1) (ap (λ k. k + 1) one.same) one.lasts in
      named_after (step + 1) births' between mid after done later now others leads id named

  pub named_law : NamedLaw serial_of
  named_law display serial done later mid after leads others id named =
      named_after 1 display_born (first_objects display) mid after done later (lasts_begun serial_of display serial) leads others id named

  -- ---- an id that names none any more

  -- its serial was given out, and no object at its number has it
  record IsPast (s : Objects D) (id : Id) : Type 0 where
    given : id.serial ≤ s.last_serial
    other : (x : Object D) → held s.store id.number ≡ Some x → serial_of x.value ≢ id.serial

  same_kept : {x y : Object D} → Some x ≡ Some y → serial_of x.value ≡ serial_of y.value
  same_kept {x} e = ap (λ o. kept o) e
    where
      kept : Option (Object D) → ℕ
      kept None = 0
      kept (Some o) = serial_of o.value

  gone_past : (s : Objects D) (id : Id) (n : ℕ) → IsPast s id → IsPast (record s { store = removed s.store n }) id
  gone_past s id n past = record {
    given = past.given;
    other = λ y holds.
        elim (cases_eq id.number n) [
          | inl here ↦ absurd (true≢false (sym (ap is_some (sym (removed_here s.store n id.number here) ∙ holds))))
          | inr there ↦ past.other y (sym (removed_other s.store n id.number there) ∙ holds)
        ];
  }

  wrote_past : (s : Objects D) (id : Id) (n : ℕ) (x y : Object D) → held s.store n ≡ Some y → serial_of x.value ≡ serial_of y.value → IsPast s id
      → IsPast (record s { store = rewritten s.store n x }) id
  wrote_past s id n x y was serial past = record {
    given = past.given;
    other = λ z holds.
        elim (cases_eq id.number n) [
          | inl here ↦ (λ is. past.other y (ap (held s.store) here ∙ was)
              (sym serial ∙ same_kept (sym (rewritten_here s.store n x id.number here) ∙ holds) ∙ is))
          | inr there ↦ past.other z (sym (rewritten_other s.store n x id.number there) ∙ holds)
        ];
  }

  past_stays : (before after : Objects D) (change : Change D) (id : Id) → Changes serial_of before change after → IsPast before id → IsPast after id
  past_stays before after (Born n x) id (free, serial, is) past = subst (λ (s : Objects D). IsPast s id) (sym is) (record {
    given = (let given = past.given in omega (arith, given));
    other = λ y holds.
        elim (cases_eq id.number n) [
          | inl here ↦ (λ same. (let given = past.given in
              omega (arith, given, serial, same, same_kept (sym (stored_here before.store n x id.number here) ∙ holds))))
          | inr there ↦ past.other y (sym (stored_other before.store n x id.number there) ∙ holds)
        ];
  })
  past_stays before after (Gone n) id is past = subst (λ (s : Objects D). IsPast s id) (sym is) (gone_past before id n past)
  past_stays before after (Wrote n x) id ((y, was, serial), is) past =
      subst (λ (s : Objects D). IsPast s id) (sym is) (wrote_past before id n x y was serial past)
  past_stays before after (Ended n x None) id (was, is) past = subst (λ (s : Objects D). IsPast s id) (sym is) (gone_past before id n past)
  past_stays before after (Ended n x (Some y)) id (was, serial, is) past =
      subst (λ (s : Objects D). IsPast s id) (sym is) (wrote_past before id n y x was serial past)
  past_stays before after (Made made) id (named, is) past = subst (λ (s : Objects D). IsPast s id) (sym is) past

  past_in : (before after : Objects D) (changes : List (Change D)) (id : Id) → StepLeads serial_of before changes after → IsPast before id → IsPast after id
  past_in before after [] id same past = subst (λ (s : Objects D). IsPast s id) (sym same) past
  past_in before after (change ∷ rest) id (between, one, others) past =
      past_in between after rest id others (past_stays before between change id one past)

  past_over : (before after : Objects D) (run : List (List (Change D))) (id : Id) → RunLeads serial_of before run after → IsPast before id → IsPast after id
  past_over before after [] id same past = subst (λ (s : Objects D). IsPast s id) (sym same) past
  past_over before after (step ∷ rest) id (between, one, others) past =
      past_over between after rest id others (past_in before between step id one past)

  -- the serials that were given out stay so
  last_change : (before after : Objects D) (change : Change D) → Changes serial_of before change after → before.last_serial ≤ after.last_serial
  last_change before after (Born n x) (free, serial, is) = (let last = ap (λ (o : Objects D). o.last_serial) is in omega (arith, last))
  last_change before after (Gone n) is = (let last = ap (λ (o : Objects D). o.last_serial) is in omega (arith, last))
  last_change before after (Wrote n x) (was, is) = (let last = ap (λ (o : Objects D). o.last_serial) is in omega (arith, last))
  last_change before after (Ended n x None) (was, is) = (let last = ap (λ (o : Objects D). o.last_serial) is in omega (arith, last))
  last_change before after (Ended n x (Some y)) (was, serial, is) = (let last = ap (λ (o : Objects D). o.last_serial) is in omega (arith, last))
  last_change before after (Made id) (named, is) = (let last = ap (λ (o : Objects D). o.last_serial) is in omega (arith, last))

  last_in : (before after : Objects D) (changes : List (Change D)) → StepLeads serial_of before changes after → before.last_serial ≤ after.last_serial
  last_in before after [] same = (let last = ap (λ (o : Objects D). o.last_serial) same in omega (arith, last))
  last_in before after (change ∷ rest) (between, one, others) =
      (let first = last_change before between change one in let more = last_in between after rest others in omega (arith, first, more))

  last_over : (before after : Objects D) (run : List (List (Change D))) → RunLeads serial_of before run after → before.last_serial ≤ after.last_serial
  last_over before after [] same = (let last = ap (λ (o : Objects D). o.last_serial) same in omega (arith, last))
  last_over before after (step ∷ rest) (between, one, others) =
      (let first = last_in before between step one in let more = last_over between after rest others in omega (arith, first, more))

  pub none_again_law : NoneAgainLaw serial_of
  none_again_law display serial done between later first mid after begun led leads id named none again =
      let whole = lasts_over serial_of 1 display_born (first_objects display) first done (lasts_begun serial_of display serial) begun in
      let (numbered, is) = named_parts serial_of id first.store named in
      let (x, holds, same) = named_serial serial_of id (held first.store id.number) is in
      let most = whole.lasts.serials.at_most_last id.number x holds in
      let last = last_over first mid between led in
      let past = past_over mid after later id leads (record {
        given = omega (arith, most, same, last);
        other = λ y at is. none (found y at is);
      }) in
      let (numbered', is') = named_parts serial_of id after.store again in
      let (z, holds', same') = named_serial serial_of id (held after.store id.number) is' in
      past.other z holds' same'
    where
      found : (y : Object D) → held mid.store id.number ≡ Some y → serial_of y.value ≡ id.serial → IsSome (names serial_of id mid.store)
      found y at is =
          ap is_some (names_at serial_of id mid.store (Some y) (named_parts serial_of id first.store named).0 at)
          ∙ ap (λ b. is_some (cond b (Some y) None)) (eq-eqb (serial_of y.value) id.serial is)
