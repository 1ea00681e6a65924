-- The identity law: what lasts over each change, and so over every run.
use Rattle.std.proofs.Common.{◌≡◌, ◌≢◌, ◌⊎◌, ℕ, zero, suc, ◌+◌, ◌<◌, ◌≤◌, Bool, true, false, cond, eqb, List, [], ◌∷◌, ◌++◌, length, Option, None, Some, is_some, IsSome, unwrap_or, refl, sym, ap, subst, ◌∙◌, true≢false, suc-le-suc, arith}
use mathlib.Core.Logic.{inl, inr}
use Rattle.std.specs.Prelude.{Contains}
use Rattle.std.proofs.lemmas.Bool.{eq-eqb, ne_eqb, eqb-true, cases_eq}
use Rattle.wl_link.specs.declared.object.Object.{Object}
use Rattle.wl_link.specs.Store.{Store, empty_store, held, stored, removed, rewritten}
use Rattle.wl_link.proofs.Ids.StoreLaws.{stored_here, stored_other, removed_here, removed_other, rewritten_here, rewritten_other, held_empty}
use Rattle.wl_link.specs.Identity.{Id, Birth, Objects, Change, Born, Gone, Wrote, Ended, Made, Births, at_number, with_made, births_in, births_over, display_born, first_objects, named_in, names, StepLeads, RunLeads, IsMadeInStep, IsMadeIn, IsBornInStep, HasSerials, NamesOwn, IdentityLaw}

-- ---- options

same_some : {A : Type 0} {x y : A} → Some x ≡ Some y → x ≡ y
same_some {x = x} e = ap (λ o. unwrap_or o x) e

none_some : {A : Type 0} {x : A} → None ≡ Some x → ⊥
none_some e = true≢false (sym (ap is_some e))

-- ---- births by number

births_here : (births : ℕ → Option Birth) (n : ℕ) (b : Option Birth) (m : ℕ) → m ≡ n → at_number births n b m ≡ b
births_here births n b m e = ap (λ t. cond t b (births m)) (eq-eqb m n e)

births_other : (births : ℕ → Option Birth) (n : ℕ) (b : Option Birth) (m : ℕ) → m ≢ n → at_number births n b m ≡ births m
births_other births n b m e = ap (λ t. cond t b (births m)) (ne_eqb m n e)

-- ---- the order of births

-- one birth comes before another
pub record IsBefore (b next : Birth) : Type 0 where
  pub order : (b.step < next.step) ⊎ ((b.step ≡ next.step) × (b.place < next.place))

not_itself : {b next : Birth} → IsBefore b next → next ≡ b → ⊥
not_itself {b} {next} before e =
    let steps : next.step ≡ b.step = ap (λ (x : Birth). x.step) e in
    let places : next.place ≡ b.place = ap (λ (x : Birth). x.place) e in
    elim before.order [ inl h ↦ omega arith | inr h ↦ (let less : b.place < next.place = h.1 in omega arith) ]

abbrev place_after : Birth → Birth
place_after next = record next { place = next.place + 1 }

before_place : {b next : Birth} → IsBefore b next → IsBefore b (place_after next)
before_place {b} {next} before = record { order = elim before.order [ inl h ↦ inl h | inr h ↦ inr (h.0, (let less : b.place < next.place = h.1 in omega arith)) ] }

itself_place : {next : Birth} → IsBefore next (place_after next)
itself_place {next} = record { order = inr (refl, omega arith) }

before_step : {b next : Birth} → IsBefore b next → IsBefore b (record { step = next.step + 1; place = 0 })
before_step {b} {next} before = record { order = inl (elim before.order [ inl h ↦ omega arith | inr h ↦ (let same : b.step ≡ next.step = h.0 in omega arith) ]) }

-- ---- a list with one more

contains_more : {A : Type 0} (xs : List A) (y x : A) → Contains (y ∷ xs) x → (y ≡ x) ⊎ Contains xs x
contains_more xs y x (zero, lt, is) = inl is
contains_more xs y x (suc k, lt, is) = inr (k, omega arith, is)

-- ---- the ids that a step makes

-- what is made in a part of a step is made in it
pub made_first : {D : Type 0} (changes others : List (Change D)) (id : Id) → IsMadeInStep changes id → IsMadeInStep (changes ++ others) id
made_first [] others id made = absurd made
made_first (Born n x ∷ changes) others id made = made_first changes others id made
made_first (Gone n ∷ changes) others id made = made_first changes others id made
made_first (Wrote n x ∷ changes) others id made = made_first changes others id made
made_first (Ended n x left ∷ changes) others id made = made_first changes others id made
made_first (Made other ∷ changes) others id made = elim made [ inl e ↦ inl e | inr later ↦ inr (made_first changes others id later) ]

pub made_later : {D : Type 0} (changes others : List (Change D)) (id : Id) → IsMadeInStep others id → IsMadeInStep (changes ++ others) id
made_later [] others id made = made
made_later (Born n x ∷ changes) others id made = made_later changes others id made
made_later (Gone n ∷ changes) others id made = made_later changes others id made
made_later (Wrote n x ∷ changes) others id made = made_later changes others id made
made_later (Ended n x left ∷ changes) others id made = made_later changes others id made
made_later (Made other ∷ changes) others id made = inr (made_later changes others id made)

-- and what is put in in a part of a step is put in in it
module _ {D : Type 0} (serial_of : D → ℕ) where
  pub born_first : (changes others : List (Change D)) (id : Id) → IsBornInStep serial_of changes id → IsBornInStep serial_of (changes ++ others) id
  born_first [] others id born = absurd born
  born_first (Born n x ∷ changes) others id born = elim born [ inl here ↦ inl here | inr later ↦ inr (born_first changes others id later) ]
  born_first (Gone n ∷ changes) others id born = born_first changes others id born
  born_first (Wrote n x ∷ changes) others id born = born_first changes others id born
  born_first (Ended n x left ∷ changes) others id born = born_first changes others id born
  born_first (Made other ∷ changes) others id born = born_first changes others id born

  pub born_later : (changes others : List (Change D)) (id : Id) → IsBornInStep serial_of others id → IsBornInStep serial_of (changes ++ others) id
  born_later [] others id born = born
  born_later (Born n x ∷ changes) others id born = inr (born_later changes others id born)
  born_later (Gone n ∷ changes) others id born = born_later changes others id born
  born_later (Wrote n x ∷ changes) others id born = born_later changes others id born
  born_later (Ended n x left ∷ changes) others id born = born_later changes others id born
  born_later (Made other ∷ changes) others id born = born_later changes others id born

module _ {D : Type 0} (serial_of : D → ℕ) where
  -- what is known of an id that was made, with the birth of its object
  pub record IsMade (next : Birth) (births : ℕ → Option Birth) (objects : Objects D) (id : Id) (birth : Birth) : Type 0 where
    pub numbered : id.number ≢ 0
    pub serial : id.serial ≤ objects.last_serial
    pub before : IsBefore birth next
    pub own : NamesOwn serial_of births objects.store id birth

  -- what lasts, where the next new object has this birth
  pub record Lasts (next : Birth) (births : Births) (objects : Objects D) : Type 0 where
    pub kept : (n : ℕ) → is_some (births.of_number n) ≡ is_some (held objects.store n)
    pub serials : HasSerials serial_of objects
    pub born : (n : ℕ) (b : Birth) → births.of_number n ≡ Some b → IsBefore b next
    pub made : (id : Id) (b : Birth) → Contains births.made (id, b) → IsMade next births.of_number objects id b

  -- ---- what an id names

  pub names_at : (id : Id) (store : Store D) (o : Option (Object D)) → id.number ≢ 0 → held store id.number ≡ o → names serial_of id store ≡ named_in serial_of id o
  names_at id store o ne e =
      ap (λ b. cond b None (named_in serial_of id (held store id.number))) (ne_eqb id.number 0 ne) ∙ ap (named_in serial_of id) e

  -- an id of a number whose object has another serial names none
  names_none : (id : Id) (x : Object D) → serial_of x.value ≢ id.serial → named_in serial_of id (Some x) ≡ None
  names_none id x ne = ap (λ b. cond b (Some x) None) (ne_eqb (serial_of x.value) id.serial ne)

  -- objects of one serial are named alike
  named_alike : (id : Id) (x y : Object D) → serial_of x.value ≡ serial_of y.value
      → is_some (named_in serial_of id (Some x)) ≡ is_some (named_in serial_of id (Some y))
  named_alike id x y e = go (eqb (serial_of x.value) id.serial) (eqb (serial_of y.value) id.serial) (ap (λ n. eqb n id.serial) e)
    where
      go : (a b : Bool) → a ≡ b → is_some (cond a (Some x) None) ≡ is_some (cond b (Some y) None)
      go true true e = refl
      go false false e = refl
      go true false e = absurd (true≢false e)
      go false true e = absurd (true≢false (sym e))

  -- an object that is named has the serial of the id, and the number is not 0
  pub named_serial : (id : Id) (o : Option (Object D)) → is_some (named_in serial_of id o) ≡ true → (x : Object D) × (o ≡ Some x) × (serial_of x.value ≡ id.serial)
  named_serial id None h = absurd (true≢false (sym h))
  named_serial id (Some x) h = (x, refl, eqb-true (serial_of x.value) id.serial (test (eqb (serial_of x.value) id.serial) h))
    where
      test : (b : Bool) → is_some (cond b (Some x) None) ≡ true → b ≡ true
      test true h = refl
      test false h = absurd (true≢false (sym h))

  pub named_parts : (id : Id) (store : Store D) → IsSome (names serial_of id store)
      → (id.number ≢ 0) × (is_some (named_in serial_of id (held store id.number)) ≡ true)
  named_parts id store h = go (cases_eq id.number 0)
    where
      go : (id.number ≡ 0) ⊎ (id.number ≢ 0) → (id.number ≢ 0) × (is_some (named_in serial_of id (held store id.number)) ≡ true)
      go (inl e) =
          absurd (true≢false (sym h ∙ ap (λ b. is_some (cond b None (named_in serial_of id (held store id.number)))) (eq-eqb id.number 0 e)))
      go (inr ne) = (ne, sym (ap is_some (names_at id store (held store id.number) ne refl)) ∙ h)

  -- ---- an id that was made, over a change

  -- where its number holds what it held
  made_other : (next next' : Birth) (births births' : ℕ → Option Birth) (s s' : Objects D) (id : Id) (b : Birth)
      → IsMade next births s id b → IsBefore b next' → s.last_serial ≤ s'.last_serial
      → is_some (named_in serial_of id (held s'.store id.number)) ≡ is_some (named_in serial_of id (held s.store id.number))
      → births' id.number ≡ births id.number → IsMade next' births' s' id b
  made_other next next' births births' s s' id b made before last same-named same-birth = record {
    numbered = made.numbered;
    serial = (let h = made.serial in omega arith);
    before = before;
    own = (
      λ h. same-birth ∙ made.own.0 (ap is_some (names_at id s.store _ made.numbered refl) ∙ sym same-named ∙ ap is_some (sym (names_at id s'.store _ made.numbered refl)) ∙ h),
      λ e. ap is_some (names_at id s'.store _ made.numbered refl) ∙ same-named ∙ ap is_some (sym (names_at id s.store _ made.numbered refl)) ∙ made.own.1 (sym same-birth ∙ e),
    );
  }

  -- where its number holds another object, or none
  made_gone : (next next' : Birth) (births births' : ℕ → Option Birth) (s s' : Objects D) (id : Id) (b : Birth)
      → IsMade next births s id b → IsBefore b next' → s.last_serial ≤ s'.last_serial
      → named_in serial_of id (held s'.store id.number) ≡ None → (births' id.number ≡ Some b → ⊥) → IsMade next' births' s' id b
  made_gone next next' births births' s s' id b made before last none other = record {
    numbered = made.numbered;
    serial = (let h = made.serial in omega arith);
    before = before;
    own = (
      λ h. absurd (true≢false (sym h ∙ ap is_some (names_at id s'.store _ made.numbered refl ∙ none))),
      λ e. absurd (other e),
    );
  }

  -- ---- an object is put at a number

  module _ (next : Birth) (births : Births) (s : Objects D) (lasts : Lasts next births s) (n : ℕ) where
    module _ (x : Object D) (free : held s.store n ≡ None) (serial : serial_of x.value ≡ s.last_serial + 1) where
      abbrev born-births : Births
      born-births = record births { of_number = at_number births.of_number n (Some next) }

      abbrev born-objects : Objects D
      born-objects = record { store = stored s.store n x; last_serial = s.last_serial + 1 }

      born-kept : (m : ℕ) → is_some (at_number births.of_number n (Some next) m) ≡ is_some (held (stored s.store n x) m)
      born-kept m =
          elim (cases_eq m n) [
            | inl e ↦ ap is_some (births_here births.of_number n (Some next) m e) ∙ ap is_some (sym (stored_here s.store n x m e))
            | inr e ↦ ap is_some (births_other births.of_number n (Some next) m e) ∙ lasts.kept m ∙ ap is_some (sym (stored_other s.store n x m e))
          ]

      -- the object that a number holds now is the new one or was held
      born-held : (m : ℕ) (y : Object D) → held (stored s.store n x) m ≡ Some y
          → ((m ≡ n) × (serial_of y.value ≡ s.last_serial + 1)) ⊎ ((held s.store m ≡ Some y) × (serial_of y.value ≤ s.last_serial))
      born-held m y e =
          elim (cases_eq m n) [
            | inl same ↦ inl (same, ap (λ (o : Object D). serial_of o.value) (same_some (sym e ∙ stored_here s.store n x m same)) ∙ serial)
            | inr other ↦
                let was : held s.store m ≡ Some y = sym (stored_other s.store n x m other) ∙ e in
                inr (was, lasts.serials.at_most_last m y was)
          ]

      born-distinct : (m k : ℕ) (y z : Object D) → held (stored s.store n x) m ≡ Some y → held (stored s.store n x) k ≡ Some z
          → serial_of y.value ≡ serial_of z.value → m ≡ k
      born-distinct m k y z p q e = go (born-held m y p) (born-held k z q)
        where
          go : ((m ≡ n) × (serial_of y.value ≡ s.last_serial + 1)) ⊎ ((held s.store m ≡ Some y) × (serial_of y.value ≤ s.last_serial))
              → ((k ≡ n) × (serial_of z.value ≡ s.last_serial + 1)) ⊎ ((held s.store k ≡ Some z) × (serial_of z.value ≤ s.last_serial)) → m ≡ k
          go (inl a) (inl b) = a.0 ∙ sym b.0
          go (inl (a, c)) (inr (b, d)) = omega arith
          go (inr (a, c)) (inl (b, d)) = omega arith
          go (inr a) (inr b) = lasts.serials.distinct m k y z a.0 b.0 e

      born-at_most : (m : ℕ) (y : Object D) → held (stored s.store n x) m ≡ Some y → serial_of y.value ≤ s.last_serial + 1
      born-at_most m y p = elim (born-held m y p) [ inl (a, c) ↦ omega arith | inr (a, c) ↦ omega arith ]

      born-before : (m : ℕ) (b : Birth) → at_number births.of_number n (Some next) m ≡ Some b → IsBefore b (place_after next)
      born-before m b e =
          elim (cases_eq m n) [
            | inl same ↦ subst (λ c. IsBefore c (place_after next)) (same_some (sym (births_here births.of_number n (Some next) m same) ∙ e)) itself_place
            | inr other ↦ before_place (lasts.born m b (sym (births_other births.of_number n (Some next) m other) ∙ e))
          ]

      born-made : (id : Id) (b : Birth) → Contains births.made (id, b)
          → IsMade (place_after next) (at_number births.of_number n (Some next)) born-objects id b
      born-made id b in-made =
          let made = lasts.made id b in-made in
          let last = made.serial in
          elim (cases_eq id.number n) [
            | inl same ↦
                made_gone next (place_after next) births.of_number (at_number births.of_number n (Some next)) s born-objects id b made (before_place made.before) (omega arith)
                (ap (named_in serial_of id) (stored_here s.store n x id.number same) ∙ names_none id x (λ e. omega arith))
                (λ e. not_itself made.before (same_some (sym (births_here births.of_number n (Some next) id.number same) ∙ e)))
            | inr other ↦
                made_other next (place_after next) births.of_number (at_number births.of_number n (Some next)) s born-objects id b made (before_place made.before) (omega arith)
                (ap (λ o. is_some (named_in serial_of id o)) (stored_other s.store n x id.number other))
                (births_other births.of_number n (Some next) id.number other)
          ]

      lasts_born : Lasts (place_after next) born-births born-objects
      lasts_born = record {
        kept = born-kept;
        serials = record { distinct = born-distinct; at_most_last = born-at_most };
        born = born-before;
        made = born-made;
      }

    -- ---- a number is emptied

    abbrev gone-births : Births
    gone-births = record births { of_number = at_number births.of_number n None }

    abbrev gone-objects : Objects D
    gone-objects = record s { store = removed s.store n }

    gone-kept : (m : ℕ) → is_some (at_number births.of_number n None m) ≡ is_some (held (removed s.store n) m)
    gone-kept m =
        elim (cases_eq m n) [
          | inl e ↦ ap is_some (births_here births.of_number n None m e) ∙ ap is_some (sym (removed_here s.store n m e))
          | inr e ↦ ap is_some (births_other births.of_number n None m e) ∙ lasts.kept m ∙ ap is_some (sym (removed_other s.store n m e))
        ]

    gone-held : (m : ℕ) (y : Object D) → held (removed s.store n) m ≡ Some y → held s.store m ≡ Some y
    gone-held m y e =
        elim (cases_eq m n) [
          | inl same ↦ absurd (none_some (sym (removed_here s.store n m same) ∙ e))
          | inr other ↦ sym (removed_other s.store n m other) ∙ e
        ]

    gone-before : (m : ℕ) (b : Birth) → at_number births.of_number n None m ≡ Some b → IsBefore b next
    gone-before m b e =
        elim (cases_eq m n) [
          | inl same ↦ absurd (none_some (sym (births_here births.of_number n None m same) ∙ e))
          | inr other ↦ lasts.born m b (sym (births_other births.of_number n None m other) ∙ e)
        ]

    gone-made : (id : Id) (b : Birth) → Contains births.made (id, b) → IsMade next (at_number births.of_number n None) gone-objects id b
    gone-made id b in-made =
        let made = lasts.made id b in-made in
        elim (cases_eq id.number n) [
          | inl same ↦
              made_gone next next births.of_number (at_number births.of_number n None) s gone-objects id b made made.before (omega arith)
              (ap (named_in serial_of id) (removed_here s.store n id.number same))
              (λ e. none_some (sym (births_here births.of_number n None id.number same) ∙ e))
          | inr other ↦
              made_other next next births.of_number (at_number births.of_number n None) s gone-objects id b made made.before (omega arith)
              (ap (λ o. is_some (named_in serial_of id o)) (removed_other s.store n id.number other))
              (births_other births.of_number n None id.number other)
        ]

    lasts_gone : Lasts next gone-births gone-objects
    lasts_gone = record {
      kept = gone-kept;
      serials = record {
        distinct = λ m k y z p q e. lasts.serials.distinct m k y z (gone-held m y p) (gone-held k z q) e;
        at_most_last = λ m y p. lasts.serials.at_most_last m y (gone-held m y p);
      };
      born = gone-before;
      made = gone-made;
    }

    -- ---- an object is written to

    module _ (x y : Object D) (was : held s.store n ≡ Some y) (serial : serial_of x.value ≡ serial_of y.value) where
      abbrev wrote-objects : Objects D
      wrote-objects = record s { store = rewritten s.store n x }

      wrote-kept : (m : ℕ) → is_some (births.of_number m) ≡ is_some (held (rewritten s.store n x) m)
      wrote-kept m =
          elim (cases_eq m n) [
            | inl e ↦ lasts.kept m ∙ ap is_some (ap (held s.store) e ∙ was) ∙ ap is_some (sym (rewritten_here s.store n x m e))
            | inr e ↦ lasts.kept m ∙ ap is_some (sym (rewritten_other s.store n x m e))
          ]

      -- a number holds what it held, or an object of the same serial
      wrote-held : (m : ℕ) (z : Object D) → held (rewritten s.store n x) m ≡ Some z
          → (o : Object D) × (held s.store m ≡ Some o) × (serial_of z.value ≡ serial_of o.value)
      wrote-held m z e =
          elim (cases_eq m n) [
            | inl same ↦ (
              y,
              ap (held s.store) same ∙ was,
              ap (λ (o : Object D). serial_of o.value) (same_some (sym e ∙ rewritten_here s.store n x m same)) ∙ serial,
            )
            | inr other ↦ (z, sym (rewritten_other s.store n x m other) ∙ e, refl)
          ]

      wrote-distinct : (m k : ℕ) (z v : Object D) → held (rewritten s.store n x) m ≡ Some z → held (rewritten s.store n x) k ≡ Some v
          → serial_of z.value ≡ serial_of v.value → m ≡ k
      wrote-distinct m k z v p q e =
          let (o, a, c) = wrote-held m z p in
          let (r, b, d) = wrote-held k v q in
          lasts.serials.distinct m k o r a b (sym c ∙ e ∙ d)

      wrote-at_most : (m : ℕ) (z : Object D) → held (rewritten s.store n x) m ≡ Some z → serial_of z.value ≤ s.last_serial
      wrote-at_most m z p =
          let (o, a, c) = wrote-held m z p in
          let most = lasts.serials.at_most_last m o a in
          omega arith

      wrote-made : (id : Id) (b : Birth) → Contains births.made (id, b) → IsMade next births.of_number wrote-objects id b
      wrote-made id b in-made =
          let made = lasts.made id b in-made in
          made_other next next births.of_number births.of_number s wrote-objects id b made made.before (omega arith)
          (elim (cases_eq id.number n) [
            | inl same ↦
                ap (λ o. is_some (named_in serial_of id o)) (rewritten_here s.store n x id.number same) ∙ named_alike id x y serial
                ∙ ap (λ o. is_some (named_in serial_of id o)) (sym (ap (held s.store) same ∙ was))
            | inr other ↦ ap (λ o. is_some (named_in serial_of id o)) (rewritten_other s.store n x id.number other)
          ])
          refl

      lasts_wrote : Lasts next births wrote-objects
      lasts_wrote = record {
        kept = wrote-kept;
        serials = record { distinct = wrote-distinct; at_most_last = wrote-at_most };
        born = lasts.born;
        made = wrote-made;
      }

  -- ---- an id is made

  pub lasts_made : (next : Birth) (births : Births) (s : Objects D) (id : Id) (o : Option Birth) → Lasts next births s
      → IsSome (names serial_of id s.store) → births.of_number id.number ≡ o → Lasts next (with_made births id o) s
  lasts_made next births s id None lasts named e = record { kept = lasts.kept; serials = lasts.serials; born = lasts.born; made = lasts.made }
  lasts_made next births s id (Some b) lasts named e = record {
    kept = lasts.kept;
    serials = lasts.serials;
    born = lasts.born;
    made = λ other c in-made. either other c (contains_more births.made (id, b) (other, c) in-made);
  }
    where
      one : IsMade next births.of_number s id b
      one =
          let (numbered, is) = named_parts id s.store named in
          let (x, holds, same) = named_serial id (held s.store id.number) is in
          let most = lasts.serials.at_most_last id.number x holds in
          record { numbered = numbered; serial = omega arith; before = lasts.born id.number b e; own = (λ _. e, λ _. named) }

      either : (other : Id) (c : Birth) → (◌≡◌ {A = Id × Birth} (id, b) (other, c)) ⊎ Contains births.made (other, c) → IsMade next births.of_number s other c
      either other c (inl same) = subst (λ (p : Id × Birth). IsMade next births.of_number s p.0 p.1) same one
      either other c (inr in-made) = lasts.made other c in-made

  -- ---- steps and runs

  -- the changes of a part of a step, and then those of the rest of it
  pub step_joins : (before between after : Objects D) (first others : List (Change D)) → StepLeads serial_of before first between
      → StepLeads serial_of between others after → StepLeads serial_of before (first ++ others) after
  step_joins before between after [] others same leads = subst (λ b. StepLeads serial_of b others after) same leads
  step_joins before between after (change ∷ rest) others (next, changes, leads) after-leads =
      (next, changes, step_joins next between after rest others leads after-leads)

  -- the steps of a run, and then those of another
  pub run_joins : (before between after : Objects D) (first others : List (List (Change D))) → RunLeads serial_of before first between
      → RunLeads serial_of between others after → RunLeads serial_of before (first ++ others) after
  run_joins before between after [] others same leads = subst (λ b. RunLeads serial_of b others after) same leads
  run_joins before between after (step ∷ rest) others (next, changes, leads) after-leads =
      (next, changes, run_joins next between after rest others leads after-leads)

  -- what lasts over the changes of a step, and what is made there
  pub record StepLasts (next : Birth) (births births-after : Births) (changes : List (Change D)) (after : Objects D) : Type 0 where
    pub last : Birth
    pub same : last.step ≡ next.step
    pub lasts : Lasts last births-after after
    pub still : (p : Id × Birth) → Contains births.made p → Contains births-after.made p
    pub makes : (id : Id) → IsMadeInStep changes id → (b : Birth) × Contains births-after.made (id, b)

  still_made : (births : Births) (id : Id) (o : Option Birth) (p : Id × Birth) → Contains births.made p → Contains (with_made births id o).made p
  still_made births id None p in-made = in-made
  still_made births id (Some b) p (k, lt, is) = (suc k, suc-le-suc lt, is)

  made_now : (births : Births) (id : Id) (o : Option Birth) → is_some o ≡ true → (b : Birth) × Contains (with_made births id o).made (id, b)
  made_now births id None h = absurd (true≢false (sym h))
  made_now births id (Some b) h = (b, (0, omega arith, refl))

  pub has_birth : (next : Birth) (births : Births) (s : Objects D) (id : Id) → Lasts next births s → IsSome (names serial_of id s.store)
      → is_some (births.of_number id.number) ≡ true
  has_birth next births s id lasts named =
      let (numbered, is) = named_parts id s.store named in
      let (x, holds, same) = named_serial id (held s.store id.number) is in
      lasts.kept id.number ∙ ap is_some holds

  pub lasts_in : (next : Birth) (births : Births) (s after : Objects D) (changes : List (Change D)) → Lasts next births s
      → StepLeads serial_of s changes after → StepLasts next births (births_in next births changes) changes after
  lasts_in next births s after [] lasts same = record {
    last = next;
    same = refl;
    lasts = subst (λ a. Lasts next births a) (sym same) lasts;
    still = λ p in-made. in-made;
    makes = λ id in-step. absurd in-step;
  }
  lasts_in next births s after (Born n x ∷ rest) lasts (between, (free, serial, is), leads) =
      let births' : Births = record births { of_number = at_number births.of_number n (Some next) } in
      let now : Lasts (place_after next) births' between = subst (λ a. Lasts (place_after next) births' a) (sym is) (lasts_born next births s lasts n x free serial) in
      let then = lasts_in (place_after next) births' between after rest now leads in
      record { last = then.last; same = then.same; lasts = then.lasts; still = then.still; makes = then.makes }
  lasts_in next births s after (Gone n ∷ rest) lasts (between, is, leads) =
      let births' : Births = record births { of_number = at_number births.of_number n None } in
      let now : Lasts next births' between = subst (λ a. Lasts next births' a) (sym is) (lasts_gone next births s lasts n) in
      let then = lasts_in next births' between after rest now leads in
      record { last = then.last; same = then.same; lasts = then.lasts; still = then.still; makes = then.makes }
  lasts_in next births s after (Wrote n x ∷ rest) lasts (between, ((y, was, serial), is), leads) =
      let now : Lasts next births between = subst (λ a. Lasts next births a) (sym is) (lasts_wrote next births s lasts n x y was serial) in
      let then = lasts_in next births between after rest now leads in
      record { last = then.last; same = then.same; lasts = then.lasts; still = then.still; makes = then.makes }
  lasts_in next births s after (Ended n x None ∷ rest) lasts (between, (was, is), leads) =
      let births' : Births = record births { of_number = at_number births.of_number n None } in
      let now : Lasts next births' between = subst (λ a. Lasts next births' a) (sym is) (lasts_gone next births s lasts n) in
      let then = lasts_in next births' between after rest now leads in
      record { last = then.last; same = then.same; lasts = then.lasts; still = then.still; makes = then.makes }
  lasts_in next births s after (Ended n x (Some y) ∷ rest) lasts (between, (was, serial, is), leads) =
      let now : Lasts next births between = subst (λ a. Lasts next births a) (sym is) (lasts_wrote next births s lasts n y x was serial) in
      let then = lasts_in next births between after rest now leads in
      record { last = then.last; same = then.same; lasts = then.lasts; still = then.still; makes = then.makes }
  lasts_in next births s after (Made id ∷ rest) lasts (between, (named, is), leads) =
      let o = births.of_number id.number in
      let births' : Births = with_made births id o in
      let now : Lasts next births' between = subst (λ a. Lasts next births' a) (sym is) (lasts_made next births s id o lasts named refl) in
      let then = lasts_in next births' between after rest now leads in
      let (b, here) = made_now births id o (has_birth next births s id lasts named) in
      record {
        last = then.last;
        same = then.same;
        lasts = then.lasts;
        still = λ p in-made. then.still p (still_made births id o p in-made);
        makes = λ other in-step. (
            elim in-step [
              | inl e ↦ (b, then.still (other, b) (subst (λ (i : Id). Contains births'.made (i, b)) e here))
              | inr later ↦ then.makes other later
            ]
            );
      }

  pub later_step : (last : Birth) (births : Births) (s : Objects D) (step : ℕ) → last.step + 1 ≡ step → Lasts last births s
      → Lasts (record { step = step; place = 0 }) births s
  later_step last births s step e lasts = record {
    kept = lasts.kept;
    serials = lasts.serials;
    born = λ n b is. moved (before_step (lasts.born n b is));
    made = λ id b in-made. (
        let made = lasts.made id b in-made in
        record { numbered = made.numbered; serial = made.serial; before = moved (before_step made.before); own = made.own }
        );
  }
    where
      moved : {b : Birth} → IsBefore b (record { step = last.step + 1; place = 0 }) → IsBefore b (record { step = step; place = 0 })
      moved {b} h = subst (λ k. IsBefore b (record { step = k; place = 0 })) e h

  -- what lasts over the steps of a run, and what is made there
  pub record RunLasts (births births-after : Births) (run : List (List (Change D))) (after : Objects D) : Type 0 where
    pub last : Birth
    pub lasts : Lasts last births-after after
    pub still : (p : Id × Birth) → Contains births.made p → Contains births-after.made p
    pub makes : (id : Id) → IsMadeIn run id → (b : Birth) × Contains births-after.made (id, b)

  pub lasts_over : (step : ℕ) (births : Births) (s after : Objects D) (run : List (List (Change D)))
      → Lasts (record { step = step; place = 0 }) births s → RunLeads serial_of s run after
      → RunLasts births (births_over step births run) run after
  lasts_over step births s after [] lasts same = record {
    last = record { step = step; place = 0 };
    lasts = subst (λ a. Lasts (record { step = step; place = 0 }) births a) (sym same) lasts;
    still = λ p in-made. in-made;
    makes = λ id in-run. absurd in-run;
  }
  lasts_over step births s after (changes ∷ rest) lasts (between, leads, others) =
      let first = lasts_in (record { step = step; place = 0 }) births s between changes lasts leads in
      let births' = births_in (record { step = step; place = 0 }) births changes in
      let now = later_step first.last births' between (step + 1) (ap (λ k. k + 1) first.same) first.lasts in
      let then = lasts_over (step + 1) births' between after rest now others in
      record {
        last = then.last;
        lasts = then.lasts;
        still = λ p in-made. then.still p (first.still p in-made);
        makes = λ id in-run. (
            elim in-run [
              | inl in-step ↦ (let (b, here) = first.makes id in-step in (b, then.still (id, b) here))
              | inr later ↦ then.makes id later
            ]
            );
      }

  -- ---- the births of the objects that a step puts in

  -- an object that the step puts in has a serial that none had before it
  born_serial : (s after : Objects D) (changes : List (Change D)) (id : Id) → StepLeads serial_of s changes after
      → IsBornInStep serial_of changes id → s.last_serial < id.serial
  born_serial s after [] id leads born = absurd born
  born_serial s after (Born n x ∷ rest) id (between, (free, serial, is), leads) born =
      let last : between.last_serial ≡ s.last_serial + 1 = ap (λ (o : Objects D). o.last_serial) is in
      elim born [
        | inl here ↦ (let same : serial_of x.value ≡ id.serial = here.1 in omega (arith, serial, same))
        | inr later ↦ (let most = born_serial between after rest id leads later in omega (arith, most, last))
      ]
  born_serial s after (Gone n ∷ rest) id (between, is, leads) born =
      subst (λ (k : ℕ). k < id.serial) (ap (λ (o : Objects D). o.last_serial) is) (born_serial between after rest id leads born)
  born_serial s after (Wrote n x ∷ rest) id (between, (was, is), leads) born =
      subst (λ (k : ℕ). k < id.serial) (ap (λ (o : Objects D). o.last_serial) is) (born_serial between after rest id leads born)
  born_serial s after (Ended n x None ∷ rest) id (between, (was, is), leads) born =
      subst (λ (k : ℕ). k < id.serial) (ap (λ (o : Objects D). o.last_serial) is) (born_serial between after rest id leads born)
  born_serial s after (Ended n x (Some y) ∷ rest) id (between, (was, serial, is), leads) born =
      subst (λ (k : ℕ). k < id.serial) (ap (λ (o : Objects D). o.last_serial) is) (born_serial between after rest id leads born)
  born_serial s after (Made made ∷ rest) id (between, (named, is), leads) born =
      subst (λ (k : ℕ). k < id.serial) (ap (λ (o : Objects D). o.last_serial) is) (born_serial between after rest id leads born)

  -- each kept object was born in this step, or has one of the serials before it
  abbrev IsOld : ℕ → ℕ → (ℕ → Option Birth) → Store D → Type 0
  IsOld step last births store =
      (n : ℕ) (x : Object D) (b : Birth) → held store n ≡ Some x → births n ≡ Some b → (b.step ≡ step) ⊎ (serial_of x.value ≤ last)

  old_born : (next : Birth) (last : ℕ) (births : ℕ → Option Birth) (store : Store D) (n : ℕ) (x : Object D) → IsOld next.step last births store
      → IsOld next.step last (at_number births n (Some next)) (stored store n x)
  old_born next last births store n x old m y b holds is =
      elim (cases_eq m n) [
        | inl same ↦ inl (ap (λ (c : Birth). c.step) (same_some (sym is ∙ births_here births n (Some next) m same)))
        | inr other ↦ old m y b (sym (stored_other store n x m other) ∙ holds) (sym (births_other births n (Some next) m other) ∙ is)
      ]

  old_gone : (step last : ℕ) (births : ℕ → Option Birth) (store : Store D) (n : ℕ) → IsOld step last births store
      → IsOld step last (at_number births n None) (removed store n)
  old_gone step last births store n old m y b holds is =
      elim (cases_eq m n) [
        | inl same ↦ absurd (none_some (sym (births_here births n None m same) ∙ is))
        | inr other ↦ old m y b (sym (removed_other store n m other) ∙ holds) (sym (births_other births n None m other) ∙ is)
      ]

  old_wrote : (step last : ℕ) (births : ℕ → Option Birth) (store : Store D) (n : ℕ) (x y : Object D) → held store n ≡ Some y
      → serial_of x.value ≡ serial_of y.value → IsOld step last births store → IsOld step last births (rewritten store n x)
  old_wrote step last births store n x y was serial old m z b holds is =
      elim (cases_eq m n) [
        | inl same ↦
            subst (λ (k : ℕ). (b.step ≡ step) ⊎ (k ≤ last))
            (sym serial ∙ ap (λ (o : Object D). serial_of o.value) (same_some (sym (rewritten_here store n x m same) ∙ holds)))
            (old n y b was (ap births (sym same) ∙ is))
        | inr other ↦ old m z b (sym (rewritten_other store n x m other) ∙ holds) is
      ]

  numbers_stay : (births : Births) (id : Id) (o : Option Birth) → (with_made births id o).of_number ≡ births.of_number
  numbers_stay births id None = refl
  numbers_stay births id (Some b) = refl

  -- an id of a later serial that the step makes is of an object that it puts in
  fresh_in : (last : ℕ) (next : Birth) (births : Births) (s after : Objects D) (changes : List (Change D)) → Lasts next births s
      → IsOld next.step last births.of_number s.store → StepLeads serial_of s changes after → (id : Id) → last < id.serial
      → IsMadeInStep changes id → (b : Birth) × (b.step ≡ next.step) × Contains (births_in next births changes).made (id, b)
  fresh_in last next births s after [] lasts old leads id later made = absurd made
  fresh_in last next births s after (Born n x ∷ rest) lasts old (between, (free, serial, is), leads) id later made =
      let births' : Births = record births { of_number = at_number births.of_number n (Some next) } in
      fresh_in last (place_after next) births' between after rest
      (subst (λ a. Lasts (place_after next) births' a) (sym is) (lasts_born next births s lasts n x free serial))
      (subst (λ (a : Objects D). IsOld next.step last births'.of_number a.store) (sym is) (old_born next last births.of_number s.store n x old))
      leads id later made
  fresh_in last next births s after (Gone n ∷ rest) lasts old (between, is, leads) id later made =
      let births' : Births = record births { of_number = at_number births.of_number n None } in
      fresh_in last next births' between after rest
      (subst (λ a. Lasts next births' a) (sym is) (lasts_gone next births s lasts n))
      (subst (λ (a : Objects D). IsOld next.step last births'.of_number a.store) (sym is) (old_gone next.step last births.of_number s.store n old))
      leads id later made
  fresh_in last next births s after (Wrote n x ∷ rest) lasts old (between, ((y, was, serial), is), leads) id later made =
      fresh_in last next births between after rest
      (subst (λ a. Lasts next births a) (sym is) (lasts_wrote next births s lasts n x y was serial))
      (subst (λ (a : Objects D). IsOld next.step last births.of_number a.store) (sym is) (old_wrote next.step last births.of_number s.store n x y was serial old))
      leads id later made
  fresh_in last next births s after (Ended n x None ∷ rest) lasts old (between, (was, is), leads) id later made =
      let births' : Births = record births { of_number = at_number births.of_number n None } in
      fresh_in last next births' between after rest
      (subst (λ a. Lasts next births' a) (sym is) (lasts_gone next births s lasts n))
      (subst (λ (a : Objects D). IsOld next.step last births'.of_number a.store) (sym is) (old_gone next.step last births.of_number s.store n old))
      leads id later made
  fresh_in last next births s after (Ended n x (Some y) ∷ rest) lasts old (between, (was, serial, is), leads) id later made =
      fresh_in last next births between after rest
      (subst (λ a. Lasts next births a) (sym is) (lasts_wrote next births s lasts n y x was serial))
      (subst (λ (a : Objects D). IsOld next.step last births.of_number a.store) (sym is) (old_wrote next.step last births.of_number s.store n y x was serial old))
      leads id later made
  fresh_in last next births s after (Made other ∷ rest) lasts old (between, (named, is), leads) id later made =
      elim made [ inl same ↦ here same (births.of_number other.number) refl | inr more ↦ fresh_in last next births' between after rest now old' leads id later more ]
    where
      births' : Births
      births' = with_made births other (births.of_number other.number)

      now : Lasts next births' between
      now = subst (λ a. Lasts next births' a) (sym is) (lasts_made next births s other (births.of_number other.number) lasts named refl)

      old' : IsOld next.step last births'.of_number between.store
      old' = subst (λ (a : Objects D). IsOld next.step last births'.of_number a.store) (sym is)
          (subst (λ (f : ℕ → Option Birth). IsOld next.step last f s.store) (sym (numbers_stay births other (births.of_number other.number))) old)

      here : other ≡ id → (o : Option Birth) → births.of_number other.number ≡ o
          → (b : Birth) × (b.step ≡ next.step) × Contains (births_in next births' rest).made (id, b)
      here same None e = absurd (true≢false (sym (has_birth next births s other lasts named) ∙ ap is_some e))
      here same (Some b) e =
          let (numbered, holds) = named_parts other s.store named in
          let (x, at, serial) = named_serial other (held s.store other.number) holds in
          let in-made : Contains births'.made (id, b) =
          subst (λ (i : Id). Contains births'.made (i, b)) same
          (subst (λ (o : Option Birth). Contains (with_made births other o).made (other, b)) (sym e) (0, omega arith, refl)) in (
            b,
            elim (old other.number x b at e) [
              | inl step ↦ step
              | inr most ↦ absurd (omega (arith, most, serial, later, ap (λ (i : Id). i.serial) same))
            ],
            (lasts_in next births' between after rest now leads).still (id, b) in-made,
          )

  fresh_over : (step : ℕ) (births : Births) (s after : Objects D) (done later : List (List (Change D))) (changes : List (Change D))
      → Lasts (record { step = step; place = 0 }) births s → RunLeads serial_of s (done ++ changes ∷ later) after → (id : Id)
      → IsMadeInStep changes id → IsBornInStep serial_of changes id
      → (b : Birth) × (b.step ≡ step + length done) × Contains (births_over step births (done ++ changes ∷ later)).made (id, b)
  fresh_over step births s after [] later changes lasts (between, leads, others) id made born =
      let next : Birth = record { step = step; place = 0 } in
      let births' = births_in next births changes in
      let (b, same, in-made) = fresh_in s.last_serial next births s between changes lasts (λ n x b holds is. inr (lasts.serials.at_most_last n x holds)) leads id
      (born_serial s between changes id leads born) made in
      let first = lasts_in next births s between changes lasts leads in
      let now = later_step first.last births' between (step + 1) (ap (λ k. k + 1) first.same) first.lasts in
      (b, omega (arith, same), (lasts_over (step + 1) births' between after later now others).still (id, b) in-made)
  fresh_over step births s after (first ∷ done) later changes lasts (between, leads, others) id made born =
      let next : Birth = record { step = step; place = 0 } in
      let births' = births_in next births first in
      let one = lasts_in next births s between first lasts leads in
      let now = later_step one.last births' between (step + 1) (ap (λ k. k + 1) one.same) one.lasts in
      let (b, same, in-made) = fresh_over (step + 1) births' between after done later changes now others id made born in
      (b, omega (arith, same), in-made)

  -- ---- the display alone

  abbrev display_birth : Option Birth
  display_birth = Some (record { step = 0; place = 0 })

  pub lasts_begun : (display : Object D) → serial_of display.value ≡ 0 → Lasts (record { step = 1; place = 0 }) display_born (first_objects display)
  lasts_begun display serial = record {
    kept = λ n. (
        elim (cases_eq n 1) [
          | inl e ↦ ap is_some (births_here (λ _. None) 1 display_birth n e) ∙ ap is_some (sym (stored_here empty_store 1 display n e))
          | inr e ↦ ap is_some (births_other (λ _. None) 1 display_birth n e) ∙ ap is_some (sym (stored_other empty_store 1 display n e ∙ held_empty n))
        ]
        );
    serials = record {
      distinct = λ n m x y p q e. (only n x p).0 ∙ sym (only m y q).0;
      at_most_last = λ n x p. (let zero = (only n x p).1 in omega arith);
    };
    born = λ n b e. (
        elim (cases_eq n 1) [
          | inl same ↦ subst (λ c. IsBefore c (record { step = 1; place = 0 })) (same_some (sym (births_here (λ _. None) 1 display_birth n same) ∙ e)) (record { order = inl (omega arith) })
          | inr other ↦ absurd (none_some (sym (births_other (λ _. None) 1 display_birth n other) ∙ e))
        ]
        );
    made = λ id b in-made. absurd (nothing in-made);
  }
    where
      only : (n : ℕ) (x : Object D) → held (first_objects display).store n ≡ Some x → (n ≡ 1) × (serial_of x.value ≡ 0)
      only n x p =
          elim (cases_eq n 1) [
            | inl e ↦ (e, ap (λ (o : Object D). serial_of o.value) (same_some (sym p ∙ stored_here empty_store 1 display n e)) ∙ serial)
            | inr e ↦ absurd (none_some (sym (held_empty n) ∙ sym (stored_other empty_store 1 display n e) ∙ p))
          ]

      nothing : {p : Id × Birth} → Contains [] p → ⊥
      nothing (k, lt, is) = omega arith

  pub identity_law : IdentityLaw serial_of
  identity_law display serial run after leads =
      let whole = lasts_over 1 display_born (first_objects display) after run (lasts_begun display serial) leads in
      record {
        serials = whole.lasts.serials;
        kept = λ n. (λ h. sym (whole.lasts.kept n) ∙ h, λ h. whole.lasts.kept n ∙ h);
        made = whole.makes;
        fresh = λ done later step split id made born. (
            let (b, same, in-made) = fresh_over 1 display_born (first_objects display) after done later step (lasts_begun display serial)
            (subst (λ (r : List (List (Change D))). RunLeads serial_of (first_objects display) r after) split leads) id made born in (
              b,
              omega (arith, same),
              subst (λ (r : List (List (Change D))). Contains (births_over 1 display_born r).made (id, b)) (sym split) in-made,
            )
            );
        own = λ id b in-made. (whole.lasts.made id b in-made).own;
      }
