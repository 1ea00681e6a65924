-- What a number holds after a change of the store, and what follows for new numbers.
use Rattle.std.proofs.Common.{Bool, false, ◌<◌, Ordering, Less, Equal, Greater, is_lt, T, ◌&&◌, List, [], ◌∷◌, length, get_or, zero, suc, unwrap_or, suc-le-suc, le_of_suc-le-suc, not-suc-le-zero, refl, arith, ◌≡◌, ℕ, true, cond, eqb, Option, None, Some, is_some, ◌∙◌, sym, ap, true≢false, ◌≢◌}
use mathlib.Core.Logic.{inl, inr}
use Rattle.std.proofs.lemmas.Bool.{cases_order, cases_eq, eq-eqb, ne_eqb}
use Rattle.std.specs.Ordering.{nat_cmp}
use Rattle.std.specs.Prelude.{Contains, AllPairs}
use Rattle.std.specs.Cmp.{unsigned_tied, nat_cmp_total, ranked}
use Rattle.std.specs.FinMap.Entries.{below_all}
use Rattle.std.specs.FinMap as map
use Rattle.wl_link.specs.declared.object.Object.{Object}
use Rattle.wl_link.specs.Store.{Store, Range, empty_store, held, stored, removed, rewritten, IsLeastAbsent, IsWalk}

module _ {D : Type 0} (store : Store D) (n : ℕ) where
  pub held_stored : (x : Object D) (m : ℕ) → held (stored store n x) m ≡ cond (eqb m n) (Some x) (held store m)
  held_stored x m = map.get-insert nat_cmp_total store.objects n x m ∙ ap (λ b. cond b (Some x) (held store m)) (unsigned_tied m n)

  pub held_removed : (m : ℕ) → held (removed store n) m ≡ cond (eqb m n) None (held store m)
  held_removed m = map.get-remove nat_cmp_total store.objects n m ∙ ap (λ b. cond b None (held store m)) (unsigned_tied m n)

  pub held_rewritten : (x : Object D) (m : ℕ) → held (rewritten store n x) m ≡ cond (eqb m n) (Some x) (held store m)
  held_rewritten x m = map.get-insert nat_cmp_total store.objects n x m ∙ ap (λ b. cond b (Some x) (held store m)) (unsigned_tied m n)

  pub stored_here : (x : Object D) (m : ℕ) → m ≡ n → held (stored store n x) m ≡ Some x
  stored_here x m e = held_stored x m ∙ ap (λ b. cond b (Some x) (held store m)) (eq-eqb m n e)

  pub stored_other : (x : Object D) (m : ℕ) → m ≢ n → held (stored store n x) m ≡ held store m
  stored_other x m e = held_stored x m ∙ ap (λ b. cond b (Some x) (held store m)) (ne_eqb m n e)

  pub removed_here : (m : ℕ) → m ≡ n → held (removed store n) m ≡ None
  removed_here m e = held_removed m ∙ ap (λ b. cond b None (held store m)) (eq-eqb m n e)

  pub removed_other : (m : ℕ) → m ≢ n → held (removed store n) m ≡ held store m
  removed_other m e = held_removed m ∙ ap (λ b. cond b None (held store m)) (ne_eqb m n e)

  pub rewritten_here : (x : Object D) (m : ℕ) → m ≡ n → held (rewritten store n x) m ≡ Some x
  rewritten_here x m e = held_rewritten x m ∙ ap (λ b. cond b (Some x) (held store m)) (eq-eqb m n e)

  pub rewritten_other : (x : Object D) (m : ℕ) → m ≢ n → held (rewritten store n x) m ≡ held store m
  rewritten_other x m e = held_rewritten x m ∙ ap (λ b. cond b (Some x) (held store m)) (ne_eqb m n e)

pub held_empty : {D : Type 0} (n : ℕ) → held (empty_store {D = D}) n ≡ None
held_empty n = map.get-empty nat_cmp n

absent_held : {A : Type 0} {o : Option A} → o ≡ None → is_some o ≡ true → ⊥
absent_held none some = true≢false (sym some ∙ ap is_some none)

module _ {D : Type 0} {range : Range} {store : Store D} where
  -- a new number is one number
  pub least_unique : {n m : ℕ} → IsLeastAbsent range store n → IsLeastAbsent range store m → n ≡ m
  least_unique {n} {m} p q =
      elim (cases_order n m) [
        | inl e ↦ e
        | inr (inl h) ↦ absurd (absent_held p.absent (q.least n p.within h))
        | inr (inr h) ↦ absurd (absent_held q.absent (p.least m q.within h))
      ]

-- ---- the walk over a store

first_of : (a b : Bool) → T (a && b) → T a
first_of true b h = tt
first_of false b h = h

second_of : (a b : Bool) → T (a && b) → T b
second_of true b h = h
second_of false b h = absurd h

is_less : (x y : ℕ) → T (is_lt (nat_cmp x y)) → x < y
is_less x y h = go (nat_cmp x y) refl h
  where
    go : (o : Ordering) → o ≡ nat_cmp x y → T (is_lt o) → x < y
    go Less e t = ranked x y Less e
    go Equal e t = absurd t
    go Greater e t = absurd t

module _ {A : Type 0} where
  above : (n : ℕ) (es : List (ℕ × A)) → T (below_all nat_cmp n es) → (k : ℕ) (d : ℕ × A) → k < length es → n < (get_or es k d).0
  above n [] h k d lt = absurd (not-suc-le-zero lt)
  above n (e ∷ es) h zero d lt = is_less n e.0 (first_of (is_lt (nat_cmp n e.0)) _ h)
  above n (e ∷ es) h (suc k) d lt = above n es (second_of (is_lt (nat_cmp n e.0)) _ h) k d (le_of_suc-le-suc lt)

  ascend : (es : List (ℕ × A)) → T (map.is_sorted nat_cmp es) → AllPairs (λ a b. a.0 < b.0) es
  ascend [] h i j d less lt = absurd (not-suc-le-zero lt)
  ascend (e ∷ es) h i zero d less lt = absurd (not-suc-le-zero less)
  ascend (e ∷ es) h zero (suc j) d less lt = above e.0 es (first_of (below_all nat_cmp e.0 es) _ h) j d (le_of_suc-le-suc lt)
  ascend (e ∷ es) h (suc i) (suc j) d less lt =
      ascend es (second_of (below_all nat_cmp e.0 es) _ h) i j d (le_of_suc-le-suc less) (le_of_suc-le-suc lt)

  found_here : (n : ℕ) (e : ℕ × A) (es : List (ℕ × A)) → n ≡ e.0 → map.find nat_cmp n (e ∷ es) ≡ Some e.1
  found_here n e es same = ap (λ b. cond b (Some e.1) (map.find nat_cmp n es)) (unsigned_tied n e.0 ∙ eq-eqb n e.0 same)

  found_later : (n : ℕ) (e : ℕ × A) (es : List (ℕ × A)) → n ≢ e.0 → map.find nat_cmp n (e ∷ es) ≡ map.find nat_cmp n es
  found_later n e es other = ap (λ b. cond b (Some e.1) (map.find nat_cmp n es)) (unsigned_tied n e.0 ∙ ne_eqb n e.0 other)

  contains_found : (n : ℕ) (x : A) (es : List (ℕ × A)) → map.find nat_cmp n es ≡ Some x → Contains es (n, x)
  contains_found n x [] is = absurd (true≢false (sym (ap is_some is)))
  contains_found n x (e ∷ es) is =
      elim (cases_eq n e.0) [
        | inl same ↦
            let value : e.1 ≡ x = ap (λ o. unwrap_or o x) (sym (found_here n e es same) ∙ is) in
            (0, omega arith, λ i. (sym same i, value i))
        | inr other ↦
            let (k, lt, at) = contains_found n x es (sym (found_later n e es other) ∙ is) in
            (suc k, suc-le-suc lt, at)
      ]

  found_contains : (n : ℕ) (x : A) (es : List (ℕ × A)) → T (map.is_sorted nat_cmp es) → Contains es (n, x) → map.find nat_cmp n es ≡ Some x
  found_contains n x [] h (k, lt, at) = absurd (not-suc-le-zero lt)
  found_contains n x (e ∷ es) h (zero, lt, at) =
      found_here n e es (ap (λ (p : ℕ × A). p.0) (sym at)) ∙ ap (λ (p : ℕ × A). Some p.1) at
  found_contains n x (e ∷ es) h (suc k, lt, at) =
      let lower = above e.0 es (first_of (below_all nat_cmp e.0 es) _ h) k (n, x) (le_of_suc-le-suc lt) in
      let number : (get_or es k (n, x)).0 ≡ n = ap (λ (p : ℕ × A). p.0) at in
      found_later n e es (λ same. omega arith)
      ∙ found_contains n x es (second_of (below_all nat_cmp e.0 es) _ h) (k, le_of_suc-le-suc lt, at)

-- the entries of a store's map are the walk over it
pub walk_of_entries : {D : Type 0} (store : Store D) → IsWalk store (map.entries store.objects)
walk_of_entries store = record {
  ascending = ascend (map.entries store.objects) (map.entries_sorted store.objects);
  each = λ n x. (
    λ among. map.get-entries store.objects n ∙ found_contains n x (map.entries store.objects) (map.entries_sorted store.objects) among,
    λ holds. contains_found n x (map.entries store.objects) (sym (map.get-entries store.objects n) ∙ holds),
  );
}
