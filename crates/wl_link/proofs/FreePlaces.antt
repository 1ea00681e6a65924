-- The free places of a range, as the flags of a tree of words.
use Rattle.std.proofs.Common.{nat_lt, is_some, ◌-◌, ◌≡◌, ◌+◌, ◌<◌, ◌≤◌, ◌++◌, ◌&&◌, true≢false, Vec, eqb, cond, ℕ, List, [], ◌∷◌, Bool, true, false, not, length, refl, sym, ap, subst, ◌∙◌, arith, inl, inr, set, Option, None, Some}
use Rattle.std.proofs.lemmas.Bool.{cases_lt, cases_eq, eq-eqb, ne_eqb, le-ltb, lt-ltb}
use Rattle.std.proofs.lemmas.List.{get_or_past, get_or-set_other, get_or-append_right, get_or_append_left, length-append, length-set}
use Rattle.std.proofs.lemmas.Grind.{get_or-set_at}
use Rattle.wl_link.specs.Inside.PlaceList.{place, IsFirstFree, free_flag, ShowsFree, WordsReadIn}
use Rattle.wl_sets.proofs.Trees.{same_flags}
use Rattle.wl_sets.specs.FreeTree.{IsTree, changed, IsLeast, FindsLeast, height, reads_of, IsHeight, words_of}

module _ {A : Type 0} where
  pub free_past : (places : List (Option A)) (j : ℕ) → length places ≤ j → free_flag places j ≡ false
  free_past places j l = ap (λ (b : Bool). b && not (is_some (place places j))) (le-ltb j (length places) l)

  free_in : (places : List (Option A)) (j : ℕ) → j < length places → free_flag places j ≡ not (is_some (place places j))
  free_in places j l = ap (λ (b : Bool). b && not (is_some (place places j))) (lt-ltb j (length places) l)

  free_changed : (places : List (Option A)) (at : ℕ) (x : Option A) → at < length places → (j : ℕ) → changed (free_flag places) at (not (is_some x)) j ≡ free_flag (set places at x) j
  free_changed places at x l j =
      elim (cases_eq j at) [
        | inl e ↦
            ap (λ (t : Bool). cond t (not (is_some x)) (free_flag places j)) (eq-eqb j at e)
            ∙ sym (free_in (set places at x) j (subst (λ (n : ℕ). j < n) (sym (length-set places at x)) (omega arith)) ∙ ap (λ o. not (is_some o)) (get_or-set_at places at j x None e l))
        | inr e ↦
            ap (λ (t : Bool). cond t (not (is_some x)) (free_flag places j)) (ne_eqb j at e)
            ∙ ap (λ (n : ℕ). nat_lt j n && not (is_some (place places j))) (sym (length-set places at x))
            ∙ ap (λ o. nat_lt j (length (set places at x)) && not (is_some o)) (sym (get_or-set_other places at j x None e))
      ]

  free_pushed : (places : List (Option A)) (x : A) (j : ℕ) → free_flag places j ≡ free_flag (places ++ Some x ∷ []) j
  free_pushed places x j =
      elim (cases_lt j (length places)) [
        | inl l ↦ free_in places j l ∙ ap (λ o. not (is_some o)) (sym (get_or_append_left places (Some x ∷ []) None j l)) ∙ sym (free_in (places ++ Some x ∷ []) j (omega (arith, length-append places (Some x ∷ []))))
        | inr g ↦ free_past places j g ∙ sym (last j g)
      ]
    where
      last : (j : ℕ) → length places ≤ j → free_flag (places ++ Some x ∷ []) j ≡ false
      last j g =
          elim (cases_lt j (length places + 1)) [
            | inl l ↦
                free_in (places ++ Some x ∷ []) j (omega (arith, length-append places (Some x ∷ [])))
                ∙ ap (λ o. not (is_some o)) (get_or-append_right places (Some x ∷ []) (length places) j None refl g ∙ ap (λ (k : ℕ). place (Some x ∷ []) k) (here l))
            | inr h ↦ free_past (places ++ Some x ∷ []) j (omega (arith, length-append places (Some x ∷ [])))
          ]
        where
          here : j < length places + 1 → j - length places ≡ 0
          here l = omega arith

  -- the least free flag is the first free place
  pub first_is : (places : List (Option A)) (at : ℕ) → IsLeast (free_flag places) at → IsFirstFree places at
  first_is places at least =
      elim (cases_lt at (length places)) [
        | inl l ↦ record {
          within = omega arith;
          free = is_none (place places at) (sym (free_in places at l) ∙ least.here);
          taken = λ i h. is_taken (place places i) (sym (free_in places i (omega arith)) ∙ least.below i h);
        }
        | inr g ↦ absurd (true≢false (sym least.here ∙ free_past places at g))
      ]
    where
      is_none : (o : Option A) → not (is_some o) ≡ true → o ≡ None
      is_none None e = refl
      is_none (Some x) e = absurd (true≢false (sym e))

      is_taken : (o : Option A) → not (is_some o) ≡ false → is_some o ≡ true
      is_taken None e = absurd (true≢false e)
      is_taken (Some x) e = refl

  pub none_is : (places : List (Option A)) → ((j : ℕ) → j < length places → free_flag places j ≡ false) → IsFirstFree places (length places)
  none_is places none = record {
    within = omega arith;
    free = get_or_past places (length places) None (omega arith);
    taken = λ i h. is_taken (place places i) (sym (free_in places i h) ∙ none i h);
  }
    where
      is_taken : (o : Option A) → not (is_some o) ≡ false → is_some o ≡ true
      is_taken None e = absurd (true≢false e)
      is_taken (Some x) e = refl

  pub marks_set : {Z : Type 0} (places : List (Option A)) (at : ℕ) (x : Option A) (levels : List (Vec ℕ Z)) → at < length places → length places < 4294967296
      → IsTree (changed (free_flag places) at (not (is_some x))) (length places) (words_of levels) → ShowsFree (set places at x) levels
  marks_set places at x levels l small t = record {
    tree = subst (λ (n : ℕ). IsTree (free_flag (set places at x)) n (words_of levels)) (sym (length-set places at x))
        (same_flags (words_of levels) _ _ (length places) (free_changed places at x l) t);
    small = subst (λ (n : ℕ). n < 4294967296) (sym (length-set places at x)) small;
  }

  pub marks_pushed : {Z : Type 0} (places : List (Option A)) (x : A) (levels : List (Vec ℕ Z)) → length places + 1 < 4294967296
      → IsTree (free_flag places) (length places + 1) (words_of levels) → ShowsFree (places ++ Some x ∷ []) levels
  marks_pushed places x levels small t =
      let e : length (places ++ Some x ∷ []) ≡ length places + 1 = length-append places (Some x ∷ []) in
      record {
        tree = subst (λ (n : ℕ). IsTree (free_flag (places ++ Some x ∷ [])) n (words_of levels)) (sym e)
            (same_flags (words_of levels) _ _ (length places + 1) (free_pushed places x) t);
        small = omega arith;
      }

  pub reads_places : (places : List (Option A)) (levels : List (List ℕ)) (result : Option ℕ) (read : ℕ) → FindsLeast (free_flag places) (length places) result
      → IsHeight (length places) (height levels) → read ≡ 0 + reads_of result levels → WordsReadIn places read
  reads_places places levels None read least lv e = record {
    none = λ z. e ∙ ap (λ (k : ℕ). 0 + cond (eqb k 0) 0 1) (lv.none z);
    full = λ l f. e ∙ ap (λ (b : Bool). 0 + cond b 0 1) (ne_eqb (height levels) 0 (λ z. omega (arith, lv.some l)));
    some = λ i l h. absurd (true≢false (sym (free_in places i l ∙ ap (λ o. not (is_some o)) h) ∙ least i l));
  }
  reads_places places levels (Some at) read least lv e =
      let e' : read ≡ height levels = omega arith in
      record {
        none = λ z. e' ∙ lv.none z;
        full = λ l f. elim (cases_lt at (length places)) [
          | inl within ↦ absurd (true≢false (sym least.here ∙ free_in places at within ∙ ap not (f at within)))
          | inr past ↦ absurd (true≢false (sym least.here ∙ free_past places at past))
        ];
        some = λ i l h. subst (λ (k : ℕ). IsHeight (length places) k) (sym e') lv;
      }
