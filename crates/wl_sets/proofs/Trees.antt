-- Levels of words over flags: the way down, a flag that changes, a flag more.
use Rattle.std.proofs.Common.{nat_eq, ◌-◌, ◌≡◌, ◌≢◌, ◌+◌, ◌*◌, ◌/◌, ◌%◌, ◌<◌, ◌≤◌, ◌^◌, ◌++◌, ◌&&◌, ◌||◌, ◌⊎◌, take, drop, true≢false, Vec, vec_len, eqb, cond, ℕ, zero, suc, List, [], ◌∷◌, Bool, true, false, not, length, refl, sym, ap, subst, ◌∙◌, arith, inl, inr, get_or, set, Option, None, Some}
use mathlib.Core.Bool.{beq}
use Rattle.std.proofs.lemmas.Bool.{cases_lt, cases_eq, eq-eqb, ne_eqb, le-ltb, lt-ltb}
use Rattle.std.proofs.lemmas.List.{get_or_past, get_or-set_other, length-append, length-set}
use Rattle.std.proofs.lemmas.Grind.{get_or-set_at, get_or_default_zero}
use Rattle.std.proofs.lemmas.Nat.Bits.{bit_at-trailing_zeros, bit_at-zero, bit_at_above}
use Rattle.std.specs.Int.{bit_at, trailing_zeros, w64}
use Rattle.std.proofs.Math.Seq.{take-append_seam}
use Rattle.std.proofs.Math.Nat.{pow-succ'}
use Rattle.wl_sets.specs.FreeTree.{word, is_set, as_bit, flags_above, IsLevel, IsTree, changed, IsLeast, FindsLeast, lowest_bit, with_first, height, reads_of, IsHeight, words_of, is_ready, has_capacity, is_one_word, ClearsBelow, TakesLeast, ChangesFlag, HasFlag, IsWholeTree, IsLeastOf}

-- ---- bits and flags

set_from_bit : (t : Bool) → as_bit t ≡ 1 → t ≡ true
set_from_bit true e = refl
set_from_bit false e = cc

clear_from_bit : (t : Bool) → as_bit t ≡ 0 → t ≡ false
clear_from_bit true e = cc
clear_from_bit false e = refl

not_zero : (n : ℕ) → is_set n ≡ true → 0 < n
not_zero n e = grind arith

pub is_zero : (n : ℕ) → is_set n ≡ false → n ≡ 0
is_zero n e = grind arith

within_words : (words : List ℕ) (w : ℕ) → is_set (word words w) ≡ true → w < length words
within_words words w e =
    elim (cases_lt w (length words)) [
      | inl l ↦ l
      | inr g ↦ let none : word words w ≡ 0 = get_or_past words w 0 g in absurd (omega (arith, not_zero (word words w) e))
    ]

pub above_more : (n : ℕ) → 1 < n → flags_above n ≡ n
above_more n l = ap (λ (b : Bool). cond b n 0) (lt-ltb 1 n l)

pub within_above : (n at : ℕ) → 1 < n → at < n → at < flags_above n
within_above n at more l = subst (λ (k : ℕ). at < k) (sym (above_more n more)) l

above_one : (n : ℕ) → n ≤ 1 → flags_above n ≡ 0
above_one n l = ap (λ (b : Bool). cond b n 0) (le-ltb 1 n l)

-- ---- levels under other flags

pub same_flags : (levels : List (List ℕ)) (flag other : ℕ → Bool) (count : ℕ) → ((j : ℕ) → flag j ≡ other j) → IsTree flag count levels → IsTree other count levels
same_flags levels flag other count e t = subst (λ (f : ℕ → Bool). IsTree f count levels) (λ i j. e j i) t

pub no_flags : (levels : List (List ℕ)) (flag other : ℕ → Bool) → IsTree flag 0 levels → IsTree other 0 levels
no_flags [] flag other t = refl
no_flags (words ∷ up) flag other (c, t) =
    (record { len = c.len; small = c.small; bits = λ w b l s. let e = c.len in absurd (omega arith) }, t)

-- ---- the way down

-- where w is the first word that is not 0, its lowest set bit is the least flag
least_in : (flag : ℕ → Bool) (count : ℕ) (words : List ℕ) (w : ℕ) → IsLevel flag count words → w < length words → 0 < word words w → ((v : ℕ) → v < w → word words v ≡ 0)
    → IsLeast flag (64 * w + trailing_zeros w64 (word words w))
least_in flag count words w c inside some none =
    let low = bit_at-trailing_zeros w64 (word words w) some (c.small w) in
    record {
      here = set_from_bit _ (sym (c.bits w (trailing_zeros w64 (word words w)) inside low.0) ∙ low.1);
      below = λ j l. under j (j / 64) (j % 64) (omega arith) (omega arith) l;
    }
  where
    under : (j v b : ℕ) → j ≡ 64 * v + b → b < 64 → j < 64 * w + trailing_zeros w64 (word words w) → flag j ≡ false
    under j v b e small l =
        let low = bit_at-trailing_zeros w64 (word words w) some (c.small w) in
        let within = low.0 in
        let zero : bit_at (word words v) b ≡ 0 =
        elim (cases_lt v w) [
          | inl before ↦ ap (λ (k : ℕ). bit_at k b) (none v before) ∙ bit_at-zero b
          | inr after ↦ let same : v ≡ w = omega arith in ap (λ (k : ℕ). bit_at (word words k) b) same ∙ low.2 b (omega arith)
        ] in
        subst (λ (k : ℕ). flag k ≡ false) (sym e) (clear_from_bit _ (sym (c.bits v b (omega arith) small) ∙ zero))

-- words that are all 0: none of their flags is set
pub none_in : (flag : ℕ → Bool) (count : ℕ) (words : List ℕ) → IsLevel flag count words → ((w : ℕ) → w < length words → word words w ≡ 0) → (j : ℕ) → j < count → flag j ≡ false
none_in flag count words c none j l =
    let e : 64 * (j / 64) + j % 64 ≡ j = omega arith in
    let len = c.len in
    let h : j / 64 < length words = omega arith in
    subst (λ (k : ℕ). flag k ≡ false) e (clear_from_bit _ (sym (c.bits (j / 64) (j % 64) h (omega arith)) ∙ ap (λ (k : ℕ). bit_at k (j % 64)) (none (j / 64) h) ∙ bit_at-zero (j % 64)))

-- the top: one word
pub least_top : (flag : ℕ → Bool) (count : ℕ) (words : List ℕ) → IsLevel flag count words → length words ≡ 1 → FindsLeast flag count (lowest_bit 0 (word words 0))
least_top flag count words c one = go (is_set (word words 0)) refl
  where
    go : (b : Bool) → is_set (word words 0) ≡ b → FindsLeast flag count (lowest_bit 0 (word words 0))
    go true e =
        subst (λ (b : Bool). FindsLeast flag count (cond b None (Some (64 * 0 + trailing_zeros w64 (word words 0))))) (sym (ne_eqb (word words 0) 0 (λ z. omega (arith, not_zero _ e))))
        (least_in flag count words 0 c (omega arith) (not_zero _ e) (λ v h. absurd (omega arith)))
    go false e =
        subst (λ (b : Bool). FindsLeast flag count (cond b None (Some (64 * 0 + trailing_zeros w64 (word words 0))))) (sym (eq-eqb (word words 0) 0 (is_zero _ e)))
        (none_in flag count words c (λ w l. let z : w ≡ 0 = omega arith in ap (word words) z ∙ is_zero _ e))

-- a level below another
pub least_under : (flag : ℕ → Bool) (count : ℕ) (words : List ℕ) (at : ℕ) → IsLevel flag count words → IsLeast (λ w. is_set (word words w)) at → FindsLeast flag count (lowest_bit at (word words at))
least_under flag count words at c least =
    subst (λ (b : Bool). FindsLeast flag count (cond b None (Some (64 * at + trailing_zeros w64 (word words at))))) (sym (ne_eqb (word words at) 0 (λ z. omega (arith, not_zero _ least.here))))
    (least_in flag count words at c (within_words words at least.here) (not_zero _ least.here) (λ v h. is_zero _ (least.below v h)))

-- ---- a flag changes

pub marked : (flag : ℕ → Bool) (count : ℕ) (words : List ℕ) (at old new : ℕ) (on : Bool) → at < count → new < 2 ^ 64 → old ≡ get_or words (at / 64) old
    → bit_at new (at % 64) ≡ as_bit on → ((i : ℕ) → i < 64 → i ≢ at % 64 → bit_at new i ≡ bit_at old i)
    → IsLevel flag count words → IsLevel (changed flag at on) count (set words (at / 64) new)
marked flag count words at old new on inside small was here others c =
    record { len = length-set words (at / 64) new ∙ c.len; small = λ w. fits w; bits = λ w b l s. bits w b l s }
  where
    len : length words ≡ (count + 63) / 64
    len = c.len

    at_w : at / 64 < length words
    at_w = omega arith

    same : (w : ℕ) → w ≡ at / 64 → word (set words (at / 64) new) w ≡ new
    same w e = get_or-set_at words (at / 64) w new 0 e at_w

    other : (w : ℕ) → w ≢ at / 64 → word (set words (at / 64) new) w ≡ word words w
    other w e = get_or-set_other words (at / 64) w new 0 e

    fits : (w : ℕ) → word (set words (at / 64) new) w < 2 ^ 64
    fits w =
        elim (cases_eq w (at / 64)) [
          | inl e ↦ subst (λ (k : ℕ). k < 2 ^ 64) (sym (same w e)) small
          | inr e ↦ subst (λ (k : ℕ). k < 2 ^ 64) (sym (other w e)) (c.small w)
        ]

    -- the flag of another number
    kept : (j : ℕ) → j ≢ at → as_bit (flag j) ≡ as_bit (changed flag at on j)
    kept j e = sym (ap (λ (t : Bool). as_bit (cond t on (flag j))) (ne_eqb j at e))

    put : (j : ℕ) → j ≡ at → as_bit on ≡ as_bit (changed flag at on j)
    put j e = sym (ap (λ (t : Bool). as_bit (cond t on (flag j))) (eq-eqb j at e))

    bits : (w b : ℕ) → w < length (set words (at / 64) new) → b < 64 → bit_at (word (set words (at / 64) new) w) b ≡ as_bit (changed flag at on (64 * w + b))
    bits w b l s =
        let lw : w < length words = subst (λ (n : ℕ). w < n) (length-set words (at / 64) new) l in
        elim (cases_eq w (at / 64)) [
          | inl e ↦
              ap (λ (k : ℕ). bit_at k b) (same w e) ∙
              elim (cases_eq b (at % 64)) [
                | inl f ↦ ap (bit_at new) f ∙ here ∙ put (64 * w + b) (omega arith)
                | inr f ↦ others b s f ∙ ap (λ (k : ℕ). bit_at k b) (was ∙ get_or_default_zero words (at / 64) old at_w) ∙ ap (λ (k : ℕ). bit_at (word words k) b) (sym e) ∙ c.bits w b lw s ∙ kept (64 * w + b) (λ q. f (omega arith))
              ]
          | inr e ↦ ap (λ (k : ℕ). bit_at k b) (other w e) ∙ c.bits w b lw s ∙ kept (64 * w + b) (λ q. e (omega arith))
        ]

-- the flags of the next level change at one place
pub marked_above : (words : List ℕ) (at new : ℕ) → at < length words → (w : ℕ) → changed (λ v. is_set (word words v)) at (is_set new) w ≡ is_set (word (set words at new) w)
marked_above words at new l w =
    elim (cases_eq w at) [
      | inl e ↦ ap (λ (t : Bool). cond t (is_set new) (is_set (word words w))) (eq-eqb w at e) ∙ ap is_set (sym (get_or-set_at words at w new 0 e l))
      | inr e ↦ ap (λ (t : Bool). cond t (is_set new) (is_set (word words w))) (ne_eqb w at e) ∙ ap is_set (sym (get_or-set_other words at w new 0 e))
    ]

-- the levels over one whose flag changed: where there are any, the word's flag changed there
pub mark_over : (words : List ℕ) (up : List (List ℕ)) (at new : ℕ) → at < length words → 1 < length words
    → IsTree (changed (λ w. is_set (word words w)) at (is_set new)) (flags_above (length words)) up
    → IsTree (λ w. is_set (word (set words at new) w)) (flags_above (length (set words at new))) up
mark_over words up at new l more t =
    subst (λ (n : ℕ). IsTree (λ w. is_set (word (set words at new) w)) (flags_above n) up) (sym (length-set words at new))
    (same_flags up _ _ (flags_above (length words)) (marked_above words at new l) t)

-- both are true or neither is
same_not : (a b : Bool) → not (beq a b) ≡ false → not a ≡ not b
same_not true true e = refl
same_not true false e = sym e
same_not false true e = e
same_not false false e = refl

-- the levels over one of which a word changed, but not whether it is 0
mark_kept : (words : List ℕ) (up : List (List ℕ)) (at new : ℕ) → at < length words → is_set (word words at) ≡ is_set new
    → IsTree (λ w. is_set (word words w)) (flags_above (length words)) up
    → IsTree (λ w. is_set (word (set words at new) w)) (flags_above (length (set words at new))) up
mark_kept words up at new l e t =
    subst (λ (n : ℕ). IsTree (λ w. is_set (word (set words at new) w)) (flags_above n) up) (sym (length-set words at new))
    (same_flags up _ _ (flags_above (length words)) kept t)
  where
    kept : (w : ℕ) → is_set (word words w) ≡ is_set (word (set words at new) w)
    kept w =
        elim (cases_eq w at) [
          | inl f ↦ ap (λ (k : ℕ). is_set (word words k)) f ∙ e ∙ ap is_set (sym (get_or-set_at words at w new 0 f l))
          | inr f ↦ ap is_set (sym (get_or-set_other words at w new 0 f))
        ]

pub mark_same : (words : List ℕ) (up : List (List ℕ)) (at before new : ℕ) → at < length words → before ≡ get_or words at before
    → not (beq (nat_eq before 0) (nat_eq new 0)) ≡ false
    → IsTree (λ w. is_set (word words w)) (flags_above (length words)) up
    → IsTree (λ w. is_set (word (set words at new) w)) (flags_above (length (set words at new))) up
mark_same words up at before new l was e t =
    mark_kept words up at new l (ap is_set (sym (was ∙ get_or_default_zero words at before l)) ∙ same_not _ _ e) t

-- else they have no flags
pub mark_top : (words : List ℕ) (up : List (List ℕ)) (at new : ℕ) → length words ≤ 1
    → IsTree (λ w. is_set (word words w)) (flags_above (length words)) up
    → IsTree (λ w. is_set (word (set words at new) w)) (flags_above (length (set words at new))) up
mark_top words up at new one t =
    let none : flags_above (length words) ≡ 0 = above_one (length words) one in
    let none' : flags_above (length (set words at new)) ≡ 0 = above_one (length (set words at new)) (subst (λ (n : ℕ). n ≤ 1) (sym (length-set words at new)) one) in
    subst (λ (n : ℕ). IsTree (λ w. is_set (word (set words at new) w)) n up) (sym none')
    (no_flags up _ _ (subst (λ (n : ℕ). IsTree (λ w. is_set (word words w)) n up) none t))

pub one_long : (words : List ℕ) (up : List (List ℕ)) → is_one_word (words ∷ up) ≡ true → length words ≡ 1
one_long words up e = grind arith

-- the only word, of which a bit is cleared
pub takes_top : (end : ℕ) (words after : List ℕ) (up : List (List ℕ)) (answer : Option ℕ) → length words ≡ 1
    → ClearsBelow end words answer after → TakesLeast end (words ∷ up) answer (after ∷ up)
takes_top end words after up None one e = ap (λ ws. ws ∷ up) e
takes_top end words after up (Some at) one (small, less, more) =
    (λ l. let (new, fits, is, here, others) = less l in subst (λ ws. ChangesFlag at false (words ∷ up) (ws ∷ up)) (sym is) (clears new fits here others), λ l. ap (λ ws. ws ∷ up) (more l))
  where
    clears : (new : ℕ) → new < 2 ^ 64 → bit_at new at ≡ 0 → ((i : ℕ) → i < 64 → i ≢ at → bit_at new i ≡ bit_at (word words 0) i)
        → ChangesFlag at false (words ∷ up) (set words 0 new ∷ up)
    clears new fits here others flag count inside (level, over) =
        let first : 0 ≡ at / 64 = omega arith in
        let rest : at ≡ at % 64 = omega arith in
        let was : word words 0 ≡ get_or words (at / 64) (word words 0) =
        sym (get_or_default_zero words 0 (word words 0) (omega arith)) ∙ ap (λ (k : ℕ). get_or words k (word words 0)) first in (
          subst (λ (k : ℕ). IsLevel (changed flag at false) count (set words k new)) (sym first)
              (marked flag count words at (word words 0) new false inside fits was (ap (bit_at new) (sym rest) ∙ here) (λ i l n. others i l (λ e. n (e ∙ rest))) level),
          mark_top words up 0 new (omega arith) over,
        )

-- ---- a flag more, which is not set

padded : (words : List ℕ) (w : ℕ) → word (words ++ 0 ∷ []) w ≡ word words w
padded [] zero = refl
padded [] (suc w) = refl
padded (x ∷ words) zero = refl
padded (x ∷ words) (suc w) = padded words w

-- it stands in the last word
pub more_in : (flag : ℕ → Bool) (count : ℕ) (words : List ℕ) → (count % 64 ≡ 0 → ⊥) → IsLevel flag count words → IsLevel flag (count + 1) words
more_in flag count words part c = let e = c.len in record { len = omega arith; small = c.small; bits = c.bits }

-- it needs a word more
pub more_word : (flag : ℕ → Bool) (count : ℕ) (words : List ℕ) → count % 64 ≡ 0 → ((j : ℕ) → count ≤ j → flag j ≡ false)
    → IsLevel flag count words → IsLevel flag (count + 1) (words ++ 0 ∷ [])
more_word flag count words whole past c =
    record {
      len = length-append words (0 ∷ []) ∙ omega (arith, c.len);
      small = λ w. subst (λ (k : ℕ). k < 2 ^ 64) (sym (padded words w)) (c.small w);
      bits = λ w b l s. ap (λ (k : ℕ). bit_at k b) (padded words w) ∙ bits w b s;
    }
  where
    bits : (w b : ℕ) → b < 64 → bit_at (word words w) b ≡ as_bit (flag (64 * w + b))
    bits w b s =
        let e = c.len in
        elim (cases_lt w (length words)) [
          | inl l ↦ c.bits w b l s
          | inr g ↦ ap (λ (k : ℕ). bit_at k b) (get_or_past words w 0 g) ∙ bit_at-zero b ∙ sym (ap as_bit (past (64 * w + b) (omega arith)))
        ]

-- the levels over one with one word more: none over the first word
pub push_one : (words : List ℕ) (up : List (List ℕ)) → length words ≡ 0
    → IsTree (λ w. is_set (word words w)) (flags_above (length words)) up
    → IsTree (λ w. is_set (word (words ++ 0 ∷ []) w)) (flags_above (length (words ++ 0 ∷ []))) up
push_one words up none t =
    let one : length (words ++ 0 ∷ []) ≤ 1 = omega (arith, length-append words (0 ∷ [])) in
    subst (λ (n : ℕ). IsTree (λ w. is_set (word (words ++ 0 ∷ []) w)) n up) (sym (above_one (length (words ++ 0 ∷ [])) one))
    (no_flags up _ _ (subst (λ (n : ℕ). IsTree (λ w. is_set (word words w)) n up) (above_one (length words) (omega arith)) t))

-- beyond the second they grow too
pub push_more : (words : List ℕ) (up : List (List ℕ)) → 1 < length words
    → IsTree (λ w. is_set (word words w)) (length words + 1) up
    → IsTree (λ w. is_set (word (words ++ 0 ∷ []) w)) (flags_above (length (words ++ 0 ∷ []))) up
push_more words up more t =
    let e : length (words ++ 0 ∷ []) ≡ length words + 1 = length-append words (0 ∷ []) in
    subst (λ (n : ℕ). IsTree (λ w. is_set (word (words ++ 0 ∷ []) w)) n up) (sym (above_more _ (omega arith) ∙ e))
    (same_flags up _ _ (length words + 1) (λ w. sym (ap is_set (padded words w))) t)

pub past_words : (words : List ℕ) (j : ℕ) → length words ≤ j → is_set (word words j) ≡ false
past_words words j g = ap is_set (get_or_past words j 0 g)

pub over_more : (words : List ℕ) (up : List (List ℕ)) → 1 < length words
    → IsTree (λ w. is_set (word words w)) (flags_above (length words)) up → IsTree (λ w. is_set (word words w)) (length words) up
over_more words up more t = subst (λ (n : ℕ). IsTree (λ w. is_set (word words w)) n up) (above_more (length words) more) t

-- the second word begins a level
first_word : (flag : ℕ → Bool) → ((j : ℕ) → 2 ≤ j → flag j ≡ false) → flag 1 ≡ false → IsLevel flag 2 (as_bit (flag 0) ∷ [])
first_word flag past second =
    record { len = refl; small = small (flag 0); bits = bits }
  where
    small : (t : Bool) (w : ℕ) → word (as_bit t ∷ []) w < 2 ^ 64
    small true zero = omega arith
    small false zero = omega arith
    small t (suc w) = omega arith

    bit : (t : Bool) → bit_at (as_bit t) 0 ≡ as_bit t
    bit true = refl
    bit false = refl

    other : (t : Bool) (b : ℕ) → bit_at (as_bit t) (suc b) ≡ 0
    other true b = bit_at_above 1 1 (suc b) (omega arith) (omega arith)
    other false b = bit_at-zero (suc b)

    rest : (j : ℕ) → 0 < j → flag j ≡ false
    rest j l = elim (cases_eq j 1) [ inl e ↦ ap flag e ∙ second | inr e ↦ past j (omega arith) ]

    bits : (w b : ℕ) → w < 1 → b < 64 → bit_at (word (as_bit (flag 0) ∷ []) w) b ≡ as_bit (flag (64 * w + b))
    bits zero zero l s = bit (flag 0)
    bits zero (suc b) l s = other (flag 0) b ∙ sym (ap as_bit (rest (64 * 0 + suc b) (omega arith)))
    bits (suc w) b l s = absurd (omega arith)

begun : (flag : ℕ → Bool) (up : List (List ℕ)) → ((j : ℕ) → 2 ≤ j → flag j ≡ false) → flag 1 ≡ false → 0 < length up
    → IsTree flag 0 up → IsTree flag 2 (with_first (flag 0) up)
begun flag [] past second some t = absurd (omega arith)
begun flag ([] ∷ up) past second some (c, t) = (first_word flag past second, no_flags up _ _ t)
begun flag ((x ∷ xs) ∷ up) past second some (c, t) = let e = c.len in absurd (omega arith)

pub push_second : (words : List ℕ) (up : List (List ℕ)) (on : Bool) → on ≡ is_set (word (words ++ 0 ∷ []) 0) → length words ≡ 1 → 0 < length up
    → IsTree (λ w. is_set (word words w)) (flags_above (length words)) up
    → IsTree (λ w. is_set (word (words ++ 0 ∷ []) w)) (flags_above (length (words ++ 0 ∷ []))) (with_first on up)
push_second words up on is one some t =
    let e : length (words ++ 0 ∷ []) ≡ 2 = length-append words (0 ∷ []) ∙ omega arith in
    subst (λ (b : Bool). IsTree (λ w. is_set (word (words ++ 0 ∷ []) w)) (flags_above (length (words ++ 0 ∷ []))) (with_first b up)) (sym is)
    (subst (λ (n : ℕ). IsTree (λ w. is_set (word (words ++ 0 ∷ []) w)) n (with_first (is_set (word (words ++ 0 ∷ []) 0)) up)) (sym (above_more _ (omega arith) ∙ e))
    (begun (λ w. is_set (word (words ++ 0 ∷ []) w)) up (λ j l. ap is_set (padded words j) ∙ past_words words j (omega arith)) (ap is_set (padded words 1) ∙ past_words words 1 (omega arith)) some
    (no_flags up _ _ (subst (λ (n : ℕ). IsTree (λ w. is_set (word words w)) n up) (above_one (length words) (omega arith)) t))))

-- ---- the words that a search reads

no_height : (levels : List (List ℕ)) (flag : ℕ → Bool) → IsTree flag 0 levels → height levels ≡ 0
no_height [] flag t = refl
no_height ([] ∷ up) flag t = refl
no_height ((x ∷ xs) ∷ up) flag (c, t) = let e = c.len in absurd (omega arith)

some_height : (levels : List (List ℕ)) (flag : ℕ → Bool) (count : ℕ) → 0 < count → IsTree flag count levels → 0 < height levels
some_height [] flag count l t = absurd (omega arith)
some_height ([] ∷ up) flag count l (c, t) = let e = c.len in absurd (omega arith)
some_height ((x ∷ xs) ∷ up) flag count l (c, t) = omega arith

-- a crude bound: no more levels than flags
pub height_within : (levels : List (List ℕ)) (flag : ℕ → Bool) (count : ℕ) → IsTree flag count levels → height levels ≤ count
height_within [] flag count t = omega arith
height_within ([] ∷ up) flag count t = omega arith
height_within ((x ∷ xs) ∷ up) flag count (c, over) =
    let len = c.len in
    let up_fits = height_within up _ (flags_above (length (x ∷ xs))) over in
    elim (cases_lt 1 (length (x ∷ xs))) [
      | inl more ↦ let e = above_more (length (x ∷ xs)) more in omega arith
      | inr one ↦ let e = above_one (length (x ∷ xs)) one in omega arith
    ]

pub height_of : (words : List ℕ) (up : List (List ℕ)) → 0 < length words → height (words ∷ up) ≡ height up + 1
height_of [] up l = absurd (omega arith)
height_of (x ∷ xs) up l = refl

one_read : (before after : ℕ) (result : Option ℕ) (levels : List (List ℕ)) → height levels ≡ 1 → after ≡ before + 1 → after ≡ before + reads_of result levels
one_read before after (Some n) levels one e = e ∙ ap (λ (k : ℕ). before + k) (sym one)
one_read before after None levels one e = e ∙ sym (ap (λ (k : ℕ). before + cond (eqb k 0) 0 1) one)

pub reads_top : (flag : ℕ → Bool) (count before after : ℕ) (result : Option ℕ) (words : List ℕ) (up : List (List ℕ)) → length words ≡ 1
    → IsTree flag count (words ∷ up) → after ≡ before + 1 → after ≡ before + reads_of result (words ∷ up)
reads_top flag count before after result words up one (c, over) e =
    let none = no_height up _ (subst (λ (n : ℕ). IsTree (λ w. is_set (word words w)) n up) (above_one (length words) (omega arith)) over) in
    one_read before after result (words ∷ up) (height_of words up (omega arith) ∙ ap (λ (k : ℕ). k + 1) none) e

pub reads_none : (flag : ℕ → Bool) (count before after : ℕ) (words : List ℕ) (up : List (List ℕ)) → 1 < length words
    → IsTree flag count (words ∷ up) → after ≡ before + reads_of None up → after ≡ before + reads_of None (words ∷ up)
reads_none flag count before after words up more (c, over) e =
    let some = some_height up _ _ (within_above (length words) 0 more (omega arith)) over in
    e ∙ ap (λ (b : Bool). before + cond b 0 1) (ne_eqb (height up) 0 (λ z. omega arith) ∙ sym (ne_eqb (height (words ∷ up)) 0 (λ z. omega (arith, height_of words up (omega arith)))))

-- ---- two levels, of which the upper is one word

-- the levels over them have no words
pub closed : (words tops : List ℕ) (up : List (List ℕ)) (flag : ℕ → Bool) (count : ℕ) → length tops ≡ 1
    → IsTree flag count (words ∷ tops ∷ up) → IsTree flag count (words ∷ tops ∷ [])
closed words tops up flag count one (level, (above, over)) = (level, (above, above_one (length tops) (omega arith)))

reopened : (words tops words' tops' : List ℕ) (up : List (List ℕ)) (flag flag' : ℕ → Bool) (count : ℕ) → length tops ≡ 1 → length tops' ≡ 1
    → IsTree flag count (words ∷ tops ∷ up) → IsTree flag' count (words' ∷ tops' ∷ []) → IsTree flag' count (words' ∷ tops' ∷ up)
reopened words tops words' tops' up flag flag' count one one' (level, (above, over)) (level', (above', over')) = (
  level',
  (
    above',
    subst (λ (n : ℕ). IsTree (λ w. is_set (word tops' w)) n up) (sym over')
        (no_flags up _ _ (subst (λ (n : ℕ). IsTree (λ w. is_set (word tops w)) n up) (above_one (length tops) (omega arith)) over)),
  ),
)

pub more_of_two : (words tops : List ℕ) (up : List (List ℕ)) (flag : ℕ → Bool) (count : ℕ) → length tops ≡ 1
    → IsTree flag count (words ∷ tops ∷ up) → 1 < length words
more_of_two words tops up flag count one (level, (above, over)) =
    let len = above.len in
    elim (cases_lt 1 (length words)) [
      | inl more ↦ more
      | inr few ↦ let none = above_one (length words) few in absurd (omega arith)
    ]

least_above : (flag : ℕ → Bool) (count : ℕ) (words tops : List ℕ) (found : Option ℕ) → length tops ≡ 1 → found ≡ lowest_bit 0 (word tops 0)
    → IsTree flag count (words ∷ tops ∷ []) → FindsLeast (λ w. is_set (word words w)) (flags_above (length words)) found
least_above flag count words tops found one e (level, (above, over)) =
    subst (FindsLeast (λ w. is_set (word words w)) (flags_above (length words))) (sym e) (least_top _ (flags_above (length words)) tops above one)

pub none_of_two : (flag : ℕ → Bool) (count : ℕ) (words tops : List ℕ) → length tops ≡ 1 → None ≡ lowest_bit 0 (word tops 0)
    → IsTree flag count (words ∷ tops ∷ []) → FindsLeast flag count None
none_of_two flag count words tops one e tree =
    let more = more_of_two words tops [] flag count one tree in
    let none = least_above flag count words tops None one e tree in
    none_in flag count words tree.0 (λ w l. is_zero (word words w) (none w (within_above (length words) w more l)))

pub some_of_two : (flag : ℕ → Bool) (count : ℕ) (words tops : List ℕ) (at : ℕ) → length tops ≡ 1 → Some at ≡ lowest_bit 0 (word tops 0)
    → IsTree flag count (words ∷ tops ∷ []) → FindsLeast flag count (lowest_bit at (word words at))
some_of_two flag count words tops at one e tree = least_under flag count words at tree.0 (least_above flag count words tops (Some at) one e tree)

-- where the upper word has a bit, the word that it tells of is one
pub row_of_two : (flag : ℕ → Bool) (count : ℕ) (words tops : List ℕ) (at : ℕ) → length tops ≡ 1 → Some at ≡ lowest_bit 0 (word tops 0)
    → IsTree flag count (words ∷ tops ∷ []) → at < length words
row_of_two flag count words tops at one e tree = let least = least_above flag count words tops (Some at) one e tree in within_words words at least.here

two_high : (words tops : List ℕ) (up : List (List ℕ)) (flag : ℕ → Bool) (count : ℕ) → length tops ≡ 1 → IsTree flag count (words ∷ tops ∷ up)
    → height (words ∷ tops ∷ up) ≡ 2
two_high words tops up flag count one tree =
    let more = more_of_two words tops up flag count one tree in
    let none = no_height up _ (subst (λ (n : ℕ). IsTree (λ w. is_set (word tops w)) n up) (above_one (length tops) (omega arith)) tree.1.1) in
    omega (arith, height_of words (tops ∷ up) (omega arith), height_of tops up (omega arith))

same_reads : (found : Option ℕ) (levels others : List (List ℕ)) → height levels ≡ height others → reads_of found levels ≡ reads_of found others
same_reads (Some n) levels others e = e
same_reads None levels others e = ap (λ (h : ℕ). cond (eqb h 0) 0 1) e

pub reads_two_none : (flag : ℕ → Bool) (count before after : ℕ) (words tops : List ℕ) → length tops ≡ 1 → IsTree flag count (words ∷ tops ∷ [])
    → after ≡ before + 1 → after ≡ before + reads_of None (words ∷ tops ∷ [])
reads_two_none flag count before after words tops one tree e =
    let high = two_high words tops [] flag count one tree in
    e ∙ ap (λ (b : Bool). before + cond b 0 1) (sym (ne_eqb (height (words ∷ tops ∷ [])) 0 (λ z. omega arith)))

pub reads_two_some : (flag : ℕ → Bool) (count before after : ℕ) (words tops : List ℕ) (at : ℕ) (found : Option ℕ) → length tops ≡ 1
    → Some at ≡ lowest_bit 0 (word tops 0) → found ≡ lowest_bit at (word words at) → IsTree flag count (words ∷ tops ∷ [])
    → after ≡ before + 2 → after ≡ before + reads_of found (words ∷ tops ∷ [])
reads_two_some flag count before after words tops at found one e f tree g =
    let high = two_high words tops [] flag count one tree in
    let least = least_above flag count words tops (Some at) one e tree in
    let some : found ≡ Some (64 * at + trailing_zeros w64 (word words at)) =
    f ∙ ap (λ (b : Bool). cond b None (Some (64 * at + trailing_zeros w64 (word words at)))) (ne_eqb (word words at) 0 (λ z. omega (arith, not_zero _ least.here))) in
    g ∙ ap (λ (k : ℕ). before + k) (sym high) ∙ ap (λ o. before + reads_of o (words ∷ tops ∷ [])) (sym some)

pub reads_of_two : (flag : ℕ → Bool) (count before after : ℕ) (words tops : List ℕ) (up : List (List ℕ)) (found : Option ℕ) → length tops ≡ 1
    → IsTree flag count (words ∷ tops ∷ up) → after ≡ before + reads_of found (words ∷ tops ∷ []) → after ≡ before + reads_of found (words ∷ tops ∷ up)
reads_of_two flag count before after words tops up found one tree e =
    e ∙ ap (λ (k : ℕ). before + k) (same_reads found (words ∷ tops ∷ []) (words ∷ tops ∷ up)
    (two_high words tops [] flag count one (closed words tops up flag count one tree) ∙ sym (two_high words tops up flag count one tree)))

pub few_of_two : (flag : ℕ → Bool) (count before : ℕ) (words tops : List ℕ) (up : List (List ℕ)) → length tops ≡ 1
    → IsTree flag count (words ∷ tops ∷ up) → before + height (words ∷ tops ∷ up) < 4294967296 → before + 2 < 4294967296
few_of_two flag count before words tops up one tree l = let high = two_high words tops up flag count one tree in omega arith

pub marked_two : (flag : ℕ → Bool) (count : ℕ) (words tops : List ℕ) (at before new top new_top : ℕ) (on : Bool) → at < count → length tops ≡ 1
    → new < 2 ^ 64 → before ≡ get_or words (at / 64) before → bit_at new (at % 64) ≡ as_bit on
    → ((i : ℕ) → i < 64 → i ≢ at % 64 → bit_at new i ≡ bit_at before i)
    → new_top < 2 ^ 64 → top ≡ get_or tops 0 top → bit_at new_top (at / 64) ≡ as_bit (is_set new)
    → ((i : ℕ) → i < 64 → i ≢ at / 64 → bit_at new_top i ≡ bit_at top i)
    → IsTree flag count (words ∷ tops ∷ []) → IsTree (changed flag at on) count (set words (at / 64) new ∷ set tops 0 new_top ∷ [])
marked_two flag count words tops at before new top new_top on inside one small was here others small' was' here' others' (level, (above, over)) =
    let len = level.len in
    let high = above.len in
    let more = more_of_two words tops [] flag count one (level, (above, over)) in
    let row : at / 64 < length words = omega arith in
    let wide = above_more (length words) more in
    let first : 0 ≡ at / 64 / 64 = omega arith in
    let rest : at / 64 ≡ at / 64 % 64 = omega arith in (
      marked flag count words at before new on inside small was here others level,
      mark_over words (set tops 0 new_top ∷ []) (at / 64) new row more (
        subst (λ (k : ℕ). IsLevel (changed (λ w. is_set (word words w)) (at / 64) (is_set new)) (flags_above (length words)) (set tops k new_top)) (sym first)
            (marked (λ w. is_set (word words w)) (flags_above (length words)) tops (at / 64) top new_top (is_set new) (within_above (length words) (at / 64) more row) small'
            (was' ∙ ap (λ (k : ℕ). get_or tops k top) first) (ap (bit_at new_top) (sym rest) ∙ here') (λ i l n. others' i l (λ e. n (e ∙ rest))) above),
        mark_top tops [] 0 new_top (omega arith) over,
      ),
    )

-- what the upper word tells
pub tells_none : (tops : List ℕ) (top : ℕ) → top ≡ word tops 0 → top ≡ 0 → None ≡ lowest_bit 0 (word tops 0)
tells_none tops top is e =
    subst (λ (k : ℕ). None ≡ lowest_bit 0 k) is (sym (ap (λ (b : Bool). cond b None (Some (64 * 0 + trailing_zeros w64 top))) (eq-eqb top 0 e)))

pub tells_row : (tops : List ℕ) (top : ℕ) → top ≡ word tops 0 → top ≢ 0 → Some (trailing_zeros w64 top) ≡ lowest_bit 0 (word tops 0)
tells_row tops top is some =
    let same : trailing_zeros w64 top ≡ 64 * 0 + trailing_zeros w64 top = omega arith in
    subst (λ (k : ℕ). Some (trailing_zeros w64 top) ≡ lowest_bit 0 k) is
    (ap Some same ∙ sym (ap (λ (b : Bool). cond b None (Some (64 * 0 + trailing_zeros w64 top))) (ne_eqb top 0 some)))

-- the word that it tells of, and its lowest bit
pub row_is_set : (flag : ℕ → Bool) (count : ℕ) (words tops : List ℕ) (row found : ℕ) → length tops ≡ 1 → Some row ≡ lowest_bit 0 (word tops 0)
    → found ≡ word words row → IsTree flag count (words ∷ tops ∷ []) → 0 < found
row_is_set flag count words tops row found one e is tree =
    let least = least_above flag count words tops (Some row) one e tree in
    subst (λ (k : ℕ). 0 < k) (sym is) (not_zero _ least.here)

pub bit_of_row : (flag : ℕ → Bool) (count : ℕ) (words tops : List ℕ) (row found : ℕ) → length tops ≡ 1 → Some row ≡ lowest_bit 0 (word tops 0)
    → found ≡ word words row → IsTree flag count (words ∷ tops ∷ []) → trailing_zeros w64 found < 64
bit_of_row flag count words tops row found one e is tree =
    let low = bit_at-trailing_zeros w64 found (row_is_set flag count words tops row found one e is tree) (subst (λ (k : ℕ). k < 2 ^ 64) (sym is) (tree.0.small row)) in
    low.0

pub least_of_row : (flag : ℕ → Bool) (count : ℕ) (words tops : List ℕ) (row found : ℕ) → length tops ≡ 1 → Some row ≡ lowest_bit 0 (word tops 0)
    → found ≡ word words row → IsTree flag count (words ∷ tops ∷ []) → IsLeast flag (64 * row + trailing_zeros w64 found)
least_of_row flag count words tops row found one e is tree =
    let least = least_above flag count words tops (Some row) one e tree in
    subst (λ (k : ℕ). IsLeast flag (64 * row + trailing_zeros w64 k)) (sym is)
    (least_in flag count words row tree.0 (within_words words row least.here) (not_zero _ least.here) (λ v h. is_zero _ (least.below v h)))

-- a bit of one row is cleared, and the row is not 0 after that
pub row_left : (flag : ℕ → Bool) (count : ℕ) (words tops : List ℕ) (row bit before new : ℕ) → 64 * row + bit < count → bit < 64 → row < length words
    → new < 2 ^ 64 → before ≡ word words row → 0 < before → 0 < new → bit_at new bit ≡ 0
    → ((i : ℕ) → i < 64 → i ≢ bit → bit_at new i ≡ bit_at before i)
    → IsTree flag count (words ∷ tops ∷ []) → IsTree (changed flag (64 * row + bit) false) count (set words row new ∷ tops ∷ [])
row_left flag count words tops row bit before new inside low within small was some left here others (level, over) =
    let at = 64 * row + bit in
    let r : row ≡ at / 64 = omega arith in
    let b : bit ≡ at % 64 = omega arith in
    let was' : before ≡ get_or words (at / 64) before =
    was ∙ sym (get_or_default_zero words row before within) ∙ ap (λ (k : ℕ). get_or words k before) r in (
      subst (λ (k : ℕ). IsLevel (changed flag at false) count (set words k new)) (sym r)
          (marked flag count words at before new false inside small was' (ap (bit_at new) (sym b) ∙ here) (λ i l n. others i l (λ e. n (e ∙ b))) level),
      mark_kept words (tops ∷ []) row new within
          (ap is_set (sym was) ∙ ap not (ne_eqb before 0 (λ z. omega arith)) ∙ sym (ap not (ne_eqb new 0 (λ z. omega arith)))) over,
    )

-- or it is 0, and so its bit in the upper word is cleared too
pub row_emptied : (flag : ℕ → Bool) (count : ℕ) (words tops : List ℕ) (row bit before new top new_top : ℕ) → 64 * row + bit < count → bit < 64
    → row < length words → length tops ≡ 1 → new < 2 ^ 64 → before ≡ word words row → new ≡ 0 → bit_at new bit ≡ 0
    → ((i : ℕ) → i < 64 → i ≢ bit → bit_at new i ≡ bit_at before i)
    → new_top < 2 ^ 64 → top ≡ word tops 0 → bit_at new_top row ≡ 0 → ((i : ℕ) → i < 64 → i ≢ row → bit_at new_top i ≡ bit_at top i)
    → IsTree flag count (words ∷ tops ∷ []) → IsTree (changed flag (64 * row + bit) false) count (set words row new ∷ set tops 0 new_top ∷ [])
row_emptied flag count words tops row bit before new top new_top inside low within one small was empty here others small' was' here' others' tree =
    let at = 64 * row + bit in
    let r : row ≡ at / 64 = omega arith in
    let b : bit ≡ at % 64 = omega arith in
    let was'' : before ≡ get_or words (at / 64) before =
    was ∙ sym (get_or_default_zero words row before within) ∙ ap (λ (k : ℕ). get_or words k before) r in
    subst (λ (k : ℕ). IsTree (changed flag at false) count (set words k new ∷ set tops 0 new_top ∷ [])) (sym r)
    (marked_two flag count words tops at before new top new_top false inside one small was'' (ap (bit_at new) (sym b) ∙ here) (λ i l n. others i l (λ e. n (e ∙ b)))
    small' (was' ∙ sym (get_or_default_zero tops 0 top (omega arith))) (ap (bit_at new_top) (sym r) ∙ here' ∙ sym (ap (λ (k : ℕ). as_bit (is_set k)) empty)) (λ i l n. others' i l (λ e. n (e ∙ r))) tree)

pub has_least : (levels : List (List ℕ)) (at : ℕ) → IsWholeTree levels → IsLeastOf levels (Some at) → HasFlag at levels
has_least levels at (flag, count, small, past, tree) least = (flag, count, within, tree)
  where
    within : at < count
    within =
        elim (cases_lt at count) [
          | inl l ↦ l
          | inr g ↦ let found = least flag count tree in absurd (true≢false (sym found.here ∙ past at g))
        ]

pub takes_two : (end : ℕ) (words tops words' tops' : List ℕ) (up : List (List ℕ)) (answer : Option ℕ) → length tops ≡ 1 → length tops' ≡ 1
    → TakesLeast end (words ∷ tops ∷ []) answer (words' ∷ tops' ∷ []) → TakesLeast end (words ∷ tops ∷ up) answer (words' ∷ tops' ∷ up)
takes_two end words tops words' tops' up None one one' e = ap (λ ls. ls ++ up) e
takes_two end words tops words' tops' up (Some at) one one' (less, more) = (
  λ l. λ flag count inside tree.
      reopened words tops words' tops' up flag _ count one one' tree (less l flag count inside (closed words tops up flag count one tree)),
  λ l. ap (λ ls. ls ++ up) (more l),
)

-- ---- lists of vectors

pub push_part : (levels : List (List ℕ)) (flag : ℕ → Bool) (count : ℕ) → (count % 64 ≡ 0 → ⊥) → IsTree flag count levels → IsTree flag (count + 1) levels
push_part [] flag count part t = absurd (part (ap (λ (n : ℕ). n % 64) t))
push_part (words ∷ up) flag count part (c, t) = (more_in flag count words part c, t)

module _ {Z : Type 0} where
  pub ready_some : (levels : List (Vec ℕ Z)) → is_ready levels ≡ true → 0 < length (words_of levels)
  ready_some [] e = absurd (true≢false (sym e))
  ready_some (v ∷ up) e = omega arith

  pub ready_up : (v : Vec ℕ Z) (up : List (Vec ℕ Z)) → 0 < vec_len v → is_ready (v ∷ up) ≡ true → is_ready up ≡ true
  ready_up v up some e = go (has_capacity v) (eqb (vec_len v) 0) (is_ready up) (ne_eqb (vec_len v) 0 (λ z. omega arith)) e
    where
      go : (a b r : Bool) → b ≡ false → (a && (b || r)) ≡ true → r ≡ true
      go true true r f e = absurd (true≢false f)
      go true false r f e = e
      go false b r f e = absurd (true≢false (sym e))

-- a slice that was lent by a vector and keeps its length
pub written : {A : Type 0} (before after : List A) (len : ℕ) → len ≡ length before → length after ≡ length before → take len (after ++ drop (length after) before) ≡ after
written before after len e f =
    ap (λ (n : ℕ). take n (after ++ drop (length after) before)) (e ∙ sym f) ∙ take-append_seam after (drop (length after) before)

pub with_top : (levels : List (List ℕ)) (flag : ℕ → Bool) (count : ℕ) → IsTree flag count levels → IsTree flag count (levels ++ [] ∷ [])
with_top [] flag count t = (record { len = ap (λ (n : ℕ). (n + 63) / 64) (sym t); small = λ w. omega arith; bits = λ w b l s. absurd (omega arith) }, refl)
with_top (words ∷ up) flag count (c, t) = (c, with_top up _ _ t)

pub words_of_append : {Z : Type 0} (levels more : List (Vec ℕ Z)) → words_of (levels ++ more) ≡ words_of levels ++ words_of more
words_of_append [] more = refl
words_of_append (v ∷ up) more = ap (λ ls. v.items ∷ ls) (words_of_append up more)

-- ---- as many levels as it takes

no_levels : (count : ℕ) → count ≡ 0 → IsHeight count 0
no_levels count z = record { none = λ e. refl; some = λ l. omega arith; enough = λ l. absurd (omega arith); wanted = λ l. absurd (omega arith) }

one_level : (count h : ℕ) → 0 < count → count ≤ 64 → h ≡ 1 → IsHeight count h
one_level count h some fits e =
    subst (λ (k : ℕ). IsHeight count k) (sym e)
    (record { none = λ z. omega arith; some = λ l. omega arith; enough = λ l. omega arith; wanted = λ l. absurd (omega arith) })

more_levels : (count n h : ℕ) → n ≡ (count + 63) / 64 → 1 < n → IsHeight n h → IsHeight count (h + 1)
more_levels count n h len more up =
    let some = up.some (omega arith) in
    let enough = up.enough (omega arith) in
    record {
      none = λ z. omega arith;
      some = λ l. omega arith;
      enough = λ l. let p : 64 ^ (h + 1) ≡ 64 * 64 ^ h = pow64 h in omega arith;
      wanted = λ l.
          elim (cases_lt 1 h) [
            | inl deep ↦
                let w = up.wanted deep in
                let p : 64 ^ (h - 1 + 1) ≡ 64 * 64 ^ (h - 1) = pow64 (h - 1) in
                let e : h + 1 - 1 ≡ h - 1 + 1 = omega arith in
                subst (λ (k : ℕ). 64 ^ k < count) (sym e) (omega arith)
            | inr flat ↦
                let e : h + 1 - 1 ≡ 1 = omega arith in
                subst (λ (k : ℕ). 64 ^ k < count) (sym e) (omega arith)
          ];
    }
  where
    pow64 : (k : ℕ) → 64 ^ (k + 1) ≡ 64 * 64 ^ k
    pow64 k = let e : k + 1 ≡ suc k = omega arith in ap (λ (m : ℕ). 64 ^ m) e ∙ pow-succ' 64 k

pub levels_of : (levels : List (List ℕ)) (flag : ℕ → Bool) (count : ℕ) → IsTree flag count levels → IsHeight count (height levels)
levels_of [] flag count t = no_levels count t
levels_of ([] ∷ up) flag count (c, over) = let len = c.len in no_levels count (omega arith)
levels_of ((x ∷ xs) ∷ up) flag count (c, over) =
    let len = c.len in
    elim (cases_lt 1 (length (x ∷ xs))) [
      | inl more ↦ more_levels count (length (x ∷ xs)) (height up) len more
          (subst (λ (n : ℕ). IsHeight n (height up)) (above_more (length (x ∷ xs)) more) (levels_of up _ _ over))
      | inr one ↦ one_level count (height up + 1) (omega arith) (omega arith)
          (ap (λ (k : ℕ). k + 1) (no_height up _ (subst (λ (n : ℕ). IsTree (λ w. is_set (word (x ∷ xs) w)) n up) (above_one (length (x ∷ xs)) one) over)))
    ]

pow_grows : (k n m : ℕ) → n + k ≡ m → 64 ^ n ≤ 64 ^ m
pow_grows zero n m e =
    let same : n ≡ m = omega arith in
    subst (λ (j : ℕ). 64 ^ n ≤ 64 ^ j) same (omega arith)
pow_grows (suc k) n m e =
    let up = pow_grows k n (n + k) refl in
    let same : suc (n + k) ≡ m = omega arith in
    let power : 64 ^ suc (n + k) ≡ 64 * 64 ^ (n + k) = pow-succ' 64 (n + k) in
    subst (λ (j : ℕ). 64 ^ n ≤ 64 ^ j) same (omega arith)

few_levels : (count levels most : ℕ) → IsHeight count levels → 0 < most → count ≤ 64 ^ most → levels ≤ most
few_levels count levels most h some fits =
    elim (cases_lt most levels) [
      | inl more ↦
          let wanted = h.wanted (omega arith) in
          let grows : 64 ^ most ≤ 64 ^ (levels - 1) = pow_grows (levels - 1 - most) most (levels - 1) (omega arith) in
          absurd (omega arith)
      | inr within ↦ within
    ]

pub few_reads : (count : ℕ) (levels : List (List ℕ)) (result : Option ℕ) (most read : ℕ) → IsHeight count (height levels) → 0 < most → count ≤ 64 ^ most
    → read ≡ 0 + reads_of result levels → read ≤ most
few_reads count levels (Some n) most read h some fits e =
    let few = few_levels count (height levels) most h some fits in
    omega arith
few_reads count levels None most read h some fits e = at (cases_eq (height levels) 0)
  where
    at : (height levels ≡ 0) ⊎ (height levels ≢ 0) → read ≤ most
    at (inl none) =
        let zero_read : read ≡ 0 + 0 = e ∙ ap (λ (b : Bool). 0 + cond b 0 1) (eq-eqb (height levels) 0 none) in
        omega arith
    at (inr more) =
        let one_read : read ≡ 0 + 1 = e ∙ ap (λ (b : Bool). 0 + cond b 0 1) (ne_eqb (height levels) 0 more) in
        omega arith
