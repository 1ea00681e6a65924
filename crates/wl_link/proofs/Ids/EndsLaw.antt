-- No object ends twice: what lasts over each change, and so over every run.
use Rattle.std.proofs.Common.{◌≡◌, ◌≢◌, ℕ, zero, suc, ◌+◌, ◌≤◌, Bool, true, false, cond, List, [], ◌∷◌, ◌++◌, None, Some, is_some, unwrap_or, refl, sym, ap, subst, ◌∙◌, true≢false, arith, append_assoc, append-nil}
use Rattle.std.specs.Prelude.{All, AllPairs}
use Rattle.std.proofs.lemmas.Bool.{cases_eq}
use Rattle.std.proofs.lemmas.List.Kept.{AllPairs-cons}
use mathlib.Core.Logic.{inl, inr}
use Rattle.wl_link.specs.declared.object.Object.{Object}
use Rattle.wl_link.specs.Store.{empty_store, held, stored, removed, rewritten}
use Rattle.wl_link.proofs.Ids.StoreLaws.{stored_here, stored_other, removed_here, removed_other, rewritten_here, rewritten_other, held_empty}
use Rattle.wl_link.specs.Identity.{Id, Objects, Change, Born, Gone, Wrote, Ended, Made, Changes, Owns, OwnsExactly, StepLeads, RunLeads, StepKeeps, RunKeeps, RunOwns, StepEnds, RunEnds, EndsOnceLaw, first_objects, counted_id, ended_in, ended_over}

same_object : {A : Type 0} (x y : A) → Some x ≡ Some y → x ≡ y
same_object x y e = ap (λ o. unwrap_or o x) e

none_some : {A : Type 0} {x : A} → None ≡ Some x → ⊥
none_some e = true≢false (sym (ap is_some e))

-- ---- lists of ids

-- each of the ids has it
abbrev Each : (Id → Type 0) → List Id → Type 0
Each P [] = Unit {0}
Each P (id ∷ ids) = P id × Each P ids

each_more : (P Q : Id → Type 0) (ids : List Id) → ((id : Id) → P id → Q id) → Each P ids → Each Q ids
each_more P Q [] more each = tt
each_more P Q (id ∷ ids) more each = (more id each.0, each_more P Q ids more each.1)

each_end : (P : Id → Type 0) (ids : List Id) (id : Id) → Each P ids → P id → Each P (ids ++ id ∷ [])
each_end P [] id each last = (last, tt)
each_end P (other ∷ ids) id each last = (each.0, each_end P ids id each.1 last)

each_all : (P : Id → Type 0) (ids : List Id) → Each P ids → All P ids
each_all P [] each k d lt = absurd (omega (arith, lt))
each_all P (id ∷ ids) each zero d lt = each.0
each_all P (id ∷ ids) each (suc k) d lt = each_all P ids each.1 k d (omega (arith, lt))

-- none of them is another
abbrev Apart : List Id → Type 0
Apart [] = Unit {0}
Apart (id ∷ ids) = Each (λ other. id ≢ other) ids × Apart ids

apart_end : (ids : List Id) (id : Id) → Apart ids → Each (λ other. other ≢ id) ids → Apart (ids ++ id ∷ [])
apart_end [] id apart others = (tt, tt)
apart_end (first ∷ ids) id apart others =
    (each_end (λ other. first ≢ other) ids id apart.0 others.0, apart_end ids id apart.1 others.1)

apart_pairs : (ids : List Id) → Apart ids → AllPairs (λ a b. a ≢ b) ids
apart_pairs [] apart i j d less lt = absurd (omega (arith, lt))
apart_pairs (id ∷ ids) apart i j d less lt =
    AllPairs-cons (λ a b. a ≢ b) id ids (each_all (λ other. id ≢ other) ids apart.0) (apart_pairs ids apart.1) i j d less lt

-- ---- the changes are those of the identity law

module _ {D : Type 0} (serial_of : D → ℕ) (allows : Objects D → Change D → Type 0) where
  pub step_leads : (before after : Objects D) (changes : List (Change D)) → StepKeeps serial_of allows before changes after → StepLeads serial_of before changes after
  step_leads before after [] same = same
  step_leads before after (change ∷ rest) (between, changes, allowed, others) = (between, changes, step_leads between after rest others)

  pub run_leads : (before after : Objects D) (run : List (List (Change D))) → RunKeeps serial_of allows before run after → RunLeads serial_of before run after
  run_leads before after [] same = same
  run_leads before after (step ∷ rest) (between, kept, others) = (between, step_leads before between step kept, run_leads between after rest others)

  -- the changes of a part of a step, and then those of the rest of it
  pub keeps_joins : (before between after : Objects D) (first others : List (Change D)) → StepKeeps serial_of allows before first between
      → StepKeeps serial_of allows between others after → StepKeeps serial_of allows before (first ++ others) after
  keeps_joins before between after [] others same kept = subst (λ b. StepKeeps serial_of allows b others after) same kept
  keeps_joins before between after (change ∷ rest) others (next, changes, allowed, leads) kept =
      (next, changes, allowed, keeps_joins next between after rest others leads kept)

  -- the steps of a run, and then those of another
  pub run_keeps_joins : (before between after : Objects D) (first others : List (List (Change D))) → RunKeeps serial_of allows before first between
      → RunKeeps serial_of allows between others after → RunKeeps serial_of allows before (first ++ others) after
  run_keeps_joins before between after [] others same kept = subst (λ b. RunKeeps serial_of allows b others after) same kept
  run_keeps_joins before between after (step ∷ rest) others (next, first, leads) kept =
      (next, first, run_keeps_joins next between after rest others leads kept)

-- what ends exactly so, ends so
module _ {D : Type 0} (serial_of : D → ℕ) (is_over : D → Bool) where
  owns_exactly : (before : Objects D) (change : Change D) → OwnsExactly is_over before change → Owns is_over before change
  owns_exactly before (Born n x) owns = tt
  owns_exactly before (Gone n) owns = tt
  owns_exactly before (Wrote n x) owns = λ y was over. owns y was ∙ over
  owns_exactly before (Ended n x None) owns = owns
  owns_exactly before (Ended n x (Some y)) owns = owns
  owns_exactly before (Made id) owns = tt

  step_owns : (before after : Objects D) (changes : List (Change D)) → StepEnds serial_of is_over before changes after → StepKeeps serial_of (Owns is_over) before changes after
  step_owns before after [] same = same
  step_owns before after (change ∷ rest) (between, changes, exactly, others) =
      (between, changes, owns_exactly before change exactly, step_owns between after rest others)

  pub run_owns : (before after : Objects D) (run : List (List (Change D))) → RunEnds serial_of is_over before run after → RunOwns serial_of is_over before run after
  run_owns before after [] same = same
  run_owns before after (step ∷ rest) (between, ends, others) = (between, step_owns before between step ends, run_owns between after rest others)

module _ {D : Type 0} (serial_of : D → ℕ) (is_over : D → Bool) where
  -- ---- what is known of an id whose object ended

  -- its serial was given out, and the object that it names, if there is one, is over
  record IsDone (s : Objects D) (id : Id) : Type 0 where
    given : id.serial ≤ s.last_serial
    over : (x : Object D) → held s.store id.number ≡ Some x → serial_of x.value ≡ id.serial → is_over x.value ≡ true

  -- no kept serial is greater than the last one given out
  abbrev pub Bounded : Objects D → Type 0
  Bounded s = (n : ℕ) (x : Object D) → held s.store n ≡ Some x → serial_of x.value ≤ s.last_serial

  -- what is so before a change is so after it
  record KeepsDone (before after : Objects D) : Type 0 where
    bounded : Bounded before → Bounded after
    done : (id : Id) → IsDone before id → IsDone after id

  keeps_same : (before after : Objects D) → after ≡ before → KeepsDone before after
  keeps_same before after same = subst (λ s. KeepsDone before s) (sym same) (record { bounded = λ b. b; done = λ id d. d })

  keeps_born : (s : Objects D) (n : ℕ) (x : Object D) → serial_of x.value ≡ s.last_serial + 1
      → KeepsDone s (record { store = stored s.store n x; last_serial = s.last_serial + 1 })
  keeps_born s n x serial = record {
    bounded = λ bounded m y is. (
        elim (cases_eq m n) [
          | inl here ↦ (
              let same : x ≡ y = same_object x y (sym (stored_here s.store n x m here) ∙ is) in
              omega (arith, serial, ap (λ (o : Object D). serial_of o.value) same)
              )
          | inr other ↦ (let most = bounded m y (sym (stored_other s.store n x m other) ∙ is) in omega (arith, most))
        ]
        );
    done = λ id d. record {
      given = (let given = d.given in omega (arith, given));
      over = λ y is same. (
          elim (cases_eq id.number n) [
            | inl here ↦ (
                let new : x ≡ y = same_object x y (sym (stored_here s.store n x id.number here) ∙ is) in
                absurd (omega (arith, serial, ap (λ (o : Object D). serial_of o.value) new, same, d.given))
                )
            | inr other ↦ d.over y (sym (stored_other s.store n x id.number other) ∙ is) same
          ]
          );
    };
  }

  keeps_gone : (s : Objects D) (n : ℕ) → KeepsDone s (record s { store = removed s.store n })
  keeps_gone s n = record {
    bounded = λ bounded m y is. bounded m y (was m y is);
    done = λ id d. record { given = d.given; over = λ y is same. d.over y (was id.number y is) same };
  }
    where
      was : (m : ℕ) (y : Object D) → held (removed s.store n) m ≡ Some y → held s.store m ≡ Some y
      was m y is =
          elim (cases_eq m n) [
            | inl here ↦ absurd (none_some (sym (removed_here s.store n m here) ∙ is))
            | inr other ↦ sym (removed_other s.store n m other) ∙ is
          ]

  keeps_wrote : (s : Objects D) (n : ℕ) (x y : Object D) → held s.store n ≡ Some y → serial_of x.value ≡ serial_of y.value
      → (is_over y.value ≡ true → is_over x.value ≡ true) → KeepsDone s (record s { store = rewritten s.store n x })
  keeps_wrote s n x y was serial over = record {
    bounded = λ bounded m z is. (
        elim (cases_eq m n) [
          | inl here ↦ (
              let most = bounded n y was in
              omega (arith, most, serial, ap (λ (o : Object D). serial_of o.value) (now m z here is))
              )
          | inr other ↦ bounded m z (sym (rewritten_other s.store n x m other) ∙ is)
        ]
        );
    done = λ id d. record {
      given = d.given;
      over = λ z is same. (
          elim (cases_eq id.number n) [
            | inl here ↦
                subst (λ (o : Object D). is_over o.value ≡ true) (now id.number z here is)
                (over
                (d.over y (ap (held s.store) here ∙ was)
                (sym serial ∙ ap (λ (o : Object D). serial_of o.value) (now id.number z here is) ∙ same)))
            | inr other ↦ d.over z (sym (rewritten_other s.store n x id.number other) ∙ is) same
          ]
          );
    };
  }
    where
      now : (m : ℕ) (z : Object D) → m ≡ n → held (rewritten s.store n x) m ≡ Some z → x ≡ z
      now m z here is = same_object x z (sym (rewritten_here s.store n x m here) ∙ is)

  keeps : (before after : Objects D) (change : Change D) → Changes serial_of before change after → Owns is_over before change → KeepsDone before after
  keeps before after (Born n x) (free, serial, is) owns = subst (λ s. KeepsDone before s) (sym is) (keeps_born before n x serial)
  keeps before after (Gone n) is owns = subst (λ s. KeepsDone before s) (sym is) (keeps_gone before n)
  keeps before after (Wrote n x) ((y, was, serial), is) owns = subst (λ s. KeepsDone before s) (sym is) (keeps_wrote before n x y was serial (owns y was))
  keeps before after (Ended n x None) (was, is) owns = subst (λ s. KeepsDone before s) (sym is) (keeps_gone before n)
  keeps before after (Ended n x (Some y)) (was, serial, is) owns =
      subst (λ s. KeepsDone before s) (sym is) (keeps_wrote before n y x was serial (λ over. owns.1))
  keeps before after (Made id) (named, is) owns = keeps_same before after is

  -- ---- the ids of the objects that ended so far

  module _ (counts : Object D → Bool) where
    record Lasts (ids : List Id) (s : Objects D) : Type 0 where
      bounded : Bounded s
      done : Each (IsDone s) ids
      apart : Apart ids

    -- where nothing ends
    lasts_kept : (ids : List Id) (before after : Objects D) → KeepsDone before after → Lasts ids before → Lasts ids after
    lasts_kept ids before after k lasts = record {
      bounded = k.bounded lasts.bounded;
      done = each_more (IsDone before) (IsDone after) ids k.done lasts.done;
      apart = lasts.apart;
    }

    abbrev id_of : ℕ → Object D → Id
    id_of n x = record { number = n; serial = serial_of x.value }

    -- an object that is not over ended in none of them
    is_new : (ids : List Id) (s : Objects D) (n : ℕ) (x : Object D) → held s.store n ≡ Some x → is_over x.value ≡ false → Each (IsDone s) ids → Each (λ other. other ≢ id_of n x) ids
    is_new ids s n x was live done =
        each_more (IsDone s) (λ other. other ≢ id_of n x) ids
        (λ other d same. true≢false (sym (d.over x (ap (λ (i : Id). held s.store i.number) same ∙ was) (sym (ap (λ (i : Id). i.serial) same))) ∙ live)) done

    -- an object ends, and is over or gone
    lasts_ended : (ids : List Id) (before after : Objects D) (n : ℕ) (x : Object D) → held before.store n ≡ Some x → is_over x.value ≡ false → KeepsDone before after
        → IsDone after (id_of n x) → Lasts ids before → Lasts (ids ++ counted_id serial_of counts n x) after
    lasts_ended ids before after n x was live k over lasts = go (counts x)
      where
        go : (b : Bool) → Lasts (ids ++ cond b (id_of n x ∷ []) []) after
        go false = subst (λ (is : List Id). Lasts is after) (sym (append-nil ids)) (lasts_kept ids before after k lasts)
        go true = record {
          bounded = k.bounded lasts.bounded;
          done = each_end (IsDone after) ids (id_of n x) (each_more (IsDone before) (IsDone after) ids k.done lasts.done) over;
          apart = apart_end ids (id_of n x) lasts.apart (is_new ids before n x was live lasts.done);
        }

    ended_gone : (before after : Objects D) (n : ℕ) (x : Object D) → serial_of x.value ≤ before.last_serial → after ≡ record before { store = removed before.store n }
        → IsDone after (id_of n x)
    ended_gone before after n x most is =
        subst (λ (s : Objects D). IsDone s (id_of n x)) (sym is)
        (record { given = most; over = λ y holds same. absurd (none_some (sym (removed_here before.store n n refl) ∙ holds)) })

    ended_over_there : (before after : Objects D) (n : ℕ) (x y : Object D) → serial_of x.value ≤ before.last_serial → is_over y.value ≡ true
        → after ≡ record before { store = rewritten before.store n y } → held before.store n ≡ Some x → IsDone after (id_of n x)
    ended_over_there before after n x y most over is was =
        subst (λ (s : Objects D). IsDone s (id_of n x)) (sym is)
        (record {
          given = most;
          over = λ z holds same. subst (λ (o : Object D). is_over o.value ≡ true) (same_object y z (sym (rewritten_here before.store n y n refl) ∙ holds)) over;
        })

    lasts_in : (ids : List Id) (before after : Objects D) (changes : List (Change D)) → Lasts ids before → StepKeeps serial_of (Owns is_over) before changes after
        → Lasts (ids ++ ended_in serial_of counts changes) after
    lasts_in ids before after [] lasts same =
        subst (λ (is : List Id). Lasts is after) (sym (append-nil ids)) (lasts_kept ids before after (keeps_same before after same) lasts)
    lasts_in ids before after (Born n x ∷ rest) lasts (between, change, owns, others) =
        lasts_in ids between after rest (lasts_kept ids before between (keeps before between (Born n x) change owns) lasts) others
    lasts_in ids before after (Gone n ∷ rest) lasts (between, change, owns, others) =
        lasts_in ids between after rest (lasts_kept ids before between (keeps before between (Gone n) change owns) lasts) others
    lasts_in ids before after (Wrote n x ∷ rest) lasts (between, change, owns, others) =
        lasts_in ids between after rest (lasts_kept ids before between (keeps before between (Wrote n x) change owns) lasts) others
    lasts_in ids before after (Made id ∷ rest) lasts (between, change, owns, others) =
        lasts_in ids between after rest (lasts_kept ids before between (keeps before between (Made id) change owns) lasts) others
    lasts_in ids before after (Ended n x None ∷ rest) lasts (between, (was, is), owns, others) =
        let now = lasts_ended ids before between n x was owns (keeps before between (Ended n x None) (was, is) owns)
        (ended_gone before between n x (lasts.bounded n x was) is) lasts in
        subst (λ (l : List Id). Lasts l after) (append_assoc ids (counted_id serial_of counts n x) (ended_in serial_of counts rest))
        (lasts_in (ids ++ counted_id serial_of counts n x) between after rest now others)
    lasts_in ids before after (Ended n x (Some y) ∷ rest) lasts (between, (was, serial, is), owns, others) =
        let now = lasts_ended ids before between n x was owns.0 (keeps before between (Ended n x (Some y)) (was, serial, is) owns)
        (ended_over_there before between n x y (lasts.bounded n x was) owns.1 is was) lasts in
        subst (λ (l : List Id). Lasts l after) (append_assoc ids (counted_id serial_of counts n x) (ended_in serial_of counts rest))
        (lasts_in (ids ++ counted_id serial_of counts n x) between after rest now others)

    lasts_over : (ids : List Id) (before after : Objects D) (run : List (List (Change D))) → Lasts ids before → RunOwns serial_of is_over before run after
        → Lasts (ids ++ ended_over serial_of counts run) after
    lasts_over ids before after [] lasts same =
        subst (λ (is : List Id). Lasts is after) (sym (append-nil ids)) (lasts_kept ids before after (keeps_same before after same) lasts)
    lasts_over ids before after (step ∷ rest) lasts (between, owns, others) =
        subst (λ (l : List Id). Lasts l after) (append_assoc ids (ended_in serial_of counts step) (ended_over serial_of counts rest))
        (lasts_over (ids ++ ended_in serial_of counts step) between after rest (lasts_in ids before between step lasts owns) others)

    -- ---- the law

    pub ends_once : (before after : Objects D) (run : List (List (Change D))) → Bounded before → RunOwns serial_of is_over before run after
        → AllPairs (λ a b. a ≢ b) (ended_over serial_of counts run)
    ends_once before after run bounded owns =
        apart_pairs (ended_over serial_of counts run) (lasts_over [] before after run (record { bounded = bounded; done = tt; apart = tt }) owns).apart

    pub ends_once_law : EndsOnceLaw serial_of is_over counts
    ends_once_law display serial run after owns = ends_once (first_objects display) after run bounded owns
      where
        bounded : Bounded (first_objects display)
        bounded n x is =
            elim (cases_eq n 1) [
              | inl here ↦ (
                  let same : display ≡ x = same_object display x (sym (stored_here empty_store 1 display n here) ∙ is) in
                  omega (arith, serial, ap (λ (o : Object D). serial_of o.value) same)
                  )
              | inr other ↦ absurd (none_some (sym (held_empty n) ∙ sym (stored_other empty_store 1 display n other) ∙ is))
            ]
