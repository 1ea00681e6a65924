-- Sets of slots, by their bits.
use Rattle.std.proofs.Common.{◌≡◌, ◌≢◌, ◌∙◌, ◌⊎◌, ℕ, ◌+◌, ◌*◌, ◌/◌, ◌%◌, ◌<◌, ◌≤◌, Bool, true, false, List, [], ◌∷◌, ◌++◌, length, get_or, Option, Some, None, zero, suc, refl, sym, ap, subst, arith}
use mathlib.Core.Logic.{inl, inr}
use Rattle.std.specs.Int.{bit_at}
use Rattle.std.specs.Option.{option_map_or}
use Rattle.std.specs.Prelude.{◌==◌, slice_get, slice_set}
use Rattle.std.proofs.lemmas.Bool.{eqb-true}
use Rattle.std.proofs.lemmas.Nat.Bits.{bit_at-zero, bit_at_ones}
use Rattle.std.proofs.lemmas.Option.{slice_get_past, slice_get_read, slice_get_within}
use Rattle.wl_sets.specs.SlotSets.{Adds, IsOut, TakesOut, word_in}
use Rattle.wl_sets.proofs.Lists.{get_set_other, get_set_same, other_of}

-- ---- a word

clash : (n : ℕ) → n ≡ 0 → n ≡ 1 → ⊥
clash n none one = absurd (omega (arith, none, one))

abbrev or_all : Option ℕ → ℕ
or_all o = option_map_or (λ w. w) o 0xFFFFFFFFFFFFFFFF

-- the word that was read
pub word_read : (words : List ℕ) (row w : ℕ) → w ≡ get_or words row w → row < length words → word_in words row ≡ w
word_read words row w is within = ap or_all (slice_get_read words (length words) row w refl within is)

-- the same where it was read by its index
pub word_index : (words : List ℕ) (row d : ℕ) → row < length words → word_in words row ≡ get_or words row d
word_index [] row d within = absurd (omega (arith, within))
word_index (w ∷ words) zero d within = refl
word_index (w ∷ words) (suc row) d within = word_index words row d (omega (arith, within))

set_word : (words : List ℕ) (row w v : ℕ) → w ≡ get_or words row w → row < length words → word_in (slice_set words row v) row ≡ v
set_word words row w v is within = ap or_all (get_set_same words row w v (slice_get_read words (length words) row w refl within is))

other_word : (words : List ℕ) (row r v : ℕ) → row ≢ r → word_in (slice_set words row v) r ≡ word_in words r
other_word words row r v differ = ap or_all (get_set_other words row r v differ)

-- ---- a change of one bit

pub adds : (words : List ℕ) (slot w v : ℕ) → w ≡ get_or words (slot / 64) w → slot / 64 < length words → bit_at v (slot % 64) ≡ 1
    → ((i : ℕ) → i < 64 → i ≢ slot % 64 → bit_at v i ≡ bit_at w i) → Adds slot words (slice_set words (slot / 64) v)
unfolding IsOut
adds words slot w v is within here others k out = at (k / 64 == slot / 64) refl
  where
    at : (b : Bool) → (k / 64 == slot / 64) ≡ b → (k ≢ slot) × IsOut words k
    at true same =
        let row : k / 64 ≡ slot / 64 = eqb-true (k / 64) (slot / 64) same in
        let zero : bit_at v (k % 64) ≡ 0 =
        subst (λ (n : ℕ). bit_at n (k % 64) ≡ 0) (ap (word_in (slice_set words (slot / 64) v)) row ∙ set_word words (slot / 64) w v is within) out in
        let differ : k % 64 ≢ slot % 64 = λ e. clash (bit_at v (slot % 64)) (subst (λ (i : ℕ). bit_at v i ≡ 0) e zero) here in (
          (λ e. differ (ap (λ (n : ℕ). n % 64) e)),
          ap (λ (n : ℕ). bit_at n (k % 64)) (ap (word_in words) row ∙ word_read words (slot / 64) w is within) ∙ (sym (others (k % 64) (omega arith) differ) ∙ zero),
        )
    at false other =
        let row : k / 64 ≢ slot / 64 = other_of (k / 64) (slot / 64) other in (
          (λ e. row (ap (λ (n : ℕ). n / 64) e)),
          ap (λ (n : ℕ). bit_at n (k % 64)) (sym (other_word words (slot / 64) (k / 64) v (λ e. row (sym e)))) ∙ out,
        )

pub takes_out : (words : List ℕ) (slot w v : ℕ) → w ≡ get_or words (slot / 64) w → slot / 64 < length words
    → ((i : ℕ) → i < 64 → i ≢ slot % 64 → bit_at v i ≡ bit_at w i) → (k : ℕ) → IsOut (slice_set words (slot / 64) v) k → (k ≡ slot) ⊎ IsOut words k
unfolding IsOut
takes_out words slot w v is within others k out = at (k == slot) refl (k / 64 == slot / 64) refl
  where
    at : (b : Bool) → (k == slot) ≡ b → (d : Bool) → (k / 64 == slot / 64) ≡ d → (k ≡ slot) ⊎ IsOut words k
    at true one d row = inl (eqb-true k slot one)
    at false one true row =
        let differs : k ≢ slot = other_of k slot one in
        let same : k / 64 ≡ slot / 64 = eqb-true (k / 64) (slot / 64) row in
        let differ : k % 64 ≢ slot % 64 = λ e. absurd (omega (arith, differs, same, e)) in
        let zero : bit_at v (k % 64) ≡ 0 =
        subst (λ (n : ℕ). bit_at n (k % 64) ≡ 0) (ap (word_in (slice_set words (slot / 64) v)) same ∙ set_word words (slot / 64) w v is within) out in
        inr (ap (λ (n : ℕ). bit_at n (k % 64)) (ap (word_in words) same ∙ word_read words (slot / 64) w is within) ∙ (sym (others (k % 64) (omega arith) differ) ∙ zero))
    at false one false row =
        let differ : k / 64 ≢ slot / 64 = other_of (k / 64) (slot / 64) row in
        inr (ap (λ (n : ℕ). bit_at n (k % 64)) (sym (other_word words (slot / 64) (k / 64) v (λ e. differ (sym e)))) ∙ out)

pub takes_out_flagged : (words : List ℕ) (slot w v : ℕ) (flag : Bool) → flag ≡ true → w ≡ get_or words (slot / 64) w → slot / 64 < length words
    → ((i : ℕ) → i < 64 → i ≢ slot % 64 → bit_at v i ≡ bit_at w i) → TakesOut slot flag words (slice_set words (slot / 64) v)
takes_out_flagged words slot w v flag is_set is within others k out = elim (takes_out words slot w v is within others k out) [
  | inl same ↦ inl (same, is_set)
  | inr before ↦ inr before
]

-- a slot without a bit is in the set
pub in_past : (words : List ℕ) (k : ℕ) → length words ≤ k / 64 → IsOut words k → ⊥
unfolding IsOut
in_past words k past out =
    clash (bit_at 0xFFFFFFFFFFFFFFFF (k % 64)) (subst (λ (n : ℕ). bit_at n (k % 64) ≡ 0) (ap or_all (slice_get_past words (k / 64) past)) out) (bit_at_ones 64 (k % 64) (omega arith))

pub adds_past : (words : List ℕ) (slot : ℕ) → length words ≤ slot / 64 → Adds slot words words
adds_past words slot past k out = ((λ e. in_past words k (subst (λ (n : ℕ). length words ≤ n / 64) (sym e) past) out), out)

-- ---- all bits

pub all_set : (words : List ℕ) → ((row : ℕ) → row < length words → slice_get words row ≡ Some 0xFFFFFFFFFFFFFFFF) → (k : ℕ) → IsOut words k → ⊥
unfolding IsOut
all_set words set k out = at (slice_get words (k / 64)) refl
  where
    at : (o : _) → slice_get words (k / 64) ≡ o → ⊥
    at None none = clash (bit_at 0xFFFFFFFFFFFFFFFF (k % 64)) (subst (λ (n : ℕ). bit_at n (k % 64) ≡ 0) (ap or_all none) out) (bit_at_ones 64 (k % 64) (omega arith))
    at (Some w) some =
        clash (bit_at 0xFFFFFFFFFFFFFFFF (k % 64)) (subst (λ (n : ℕ). bit_at n (k % 64) ≡ 0) (ap or_all (set (k / 64) (slice_get_within words (k / 64) w some))) out)
        (bit_at_ones 64 (k % 64) (omega arith))

-- ---- a word more

word_more : (words : List ℕ) (row : ℕ) → word_in (words ++ 0xFFFFFFFFFFFFFFFF ∷ []) row ≡ word_in words row
word_more [] zero = refl
word_more [] (suc row) = refl
word_more (w ∷ words) zero = refl
word_more (w ∷ words) (suc row) = word_more words row

pub one_word_more : (before words after : List ℕ) → words ≡ before → after ≡ words ++ 0xFFFFFFFFFFFFFFFF ∷ [] → (k : ℕ) → IsOut after k → IsOut before k
unfolding IsOut
one_word_more before words after same more k out =
    ap (λ (n : ℕ). bit_at n (k % 64)) (sym (ap (λ (ws : List ℕ). word_in ws (k / 64)) more ∙ (word_more words (k / 64) ∙ ap (λ (ws : List ℕ). word_in ws (k / 64)) same))) ∙ out

-- ---- the next slot

-- what is skipped in the first word
pub first_skipped : (words : List ℕ) (from w bit : ℕ) → word_in words (from / 64) ≡ w → ((i : ℕ) → from % 64 ≤ i → i < bit → bit_at w i ≡ 0)
    → bit ≤ 64 → (k : ℕ) → from ≤ k → k < 64 * (from / 64) + bit → IsOut words k
unfolding IsOut
first_skipped words from w bit is none within k above below =
    let row : k / 64 ≡ from / 64 = omega (arith, within, above, below) in
    ap (λ (n : ℕ). bit_at n (k % 64)) (ap (word_in words) row ∙ is) ∙ none (k % 64) (omega (arith, above, row)) (omega (arith, below, row))

-- what is skipped up to a row
pub rows_skipped : (words : List ℕ) (from w row : ℕ) → word_in words (from / 64) ≡ w → ((i : ℕ) → from % 64 ≤ i → i < 64 → bit_at w i ≡ 0)
    → ((r : ℕ) → from / 64 + 1 ≤ r → r < row → slice_get words r ≡ Some 0) → (k : ℕ) → from ≤ k → k / 64 < row → IsOut words k
unfolding IsOut
rows_skipped words from w row is none zeros k above below = at (k / 64 == from / 64) refl
  where
    at : (b : Bool) → (k / 64 == from / 64) ≡ b → IsOut words k
    at true same =
        let first : k / 64 ≡ from / 64 = eqb-true (k / 64) (from / 64) same in
        ap (λ (n : ℕ). bit_at n (k % 64)) (ap (word_in words) first ∙ is) ∙ none (k % 64) (omega (arith, above, first)) (omega arith)
    at false other =
        let differ : k / 64 ≢ from / 64 = other_of (k / 64) (from / 64) other in
        ap (λ (n : ℕ). bit_at n (k % 64)) (ap or_all (zeros (k / 64) (omega (arith, above, differ)) below)) ∙ bit_at-zero (k % 64)

-- and in the last row
pub all_skipped : (words : List ℕ) (from w row v bit : ℕ) → word_in words (from / 64) ≡ w → ((i : ℕ) → from % 64 ≤ i → i < 64 → bit_at w i ≡ 0)
    → ((r : ℕ) → from / 64 + 1 ≤ r → r < row → slice_get words r ≡ Some 0) → word_in words row ≡ v → ((i : ℕ) → 0 ≤ i → i < bit → bit_at v i ≡ 0)
    → bit ≤ 64 → (k : ℕ) → from ≤ k → k < row * 64 + bit → IsOut words k
unfolding IsOut
all_skipped words from w row v bit is none zeros last rest within k above below = at (k / 64 == row) refl
  where
    at : (b : Bool) → (k / 64 == row) ≡ b → IsOut words k
    at true same =
        let here : k / 64 ≡ row = eqb-true (k / 64) row same in
        ap (λ (n : ℕ). bit_at n (k % 64)) (ap (word_in words) here ∙ last) ∙ rest (k % 64) (omega arith) (omega (arith, below, here))
    at false other =
        let differ : k / 64 ≢ row = other_of (k / 64) row other in
        rows_skipped words from w row is none zeros k above (omega (arith, below, differ, within))
