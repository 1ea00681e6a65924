-- The lowest bit of a word from one on.
use Rattle.std.proofs.Common.{◌≡◌, ◌≢◌, ◌∙◌, ℕ, ◌-◌, ◌^◌, ◌%◌, ◌*◌, ◌<◌, ◌≤◌, min, bit_and, arith, subst, sym, ap, refl, nat_lt, Bool, true, false}
use Rattle.std.specs.Int.{bit_at, w64, trailing_zeros}
use Rattle.std.proofs.lemmas.Bool.{ltb-false, ltb-true}
use Rattle.std.proofs.lemmas.Nat.{and_le_l}
use Rattle.std.proofs.lemmas.Nat.Bits.{bit_at-lt, bit_at-trailing_zeros, bit_at_and, bit_at_mask_below, bit_at_mask_inside, ones_shl}

abbrev pub masked : ℕ → ℕ → ℕ
masked word from = bit_and word (18446744073709551615 * 2 ^ from % 18446744073709551616)

mask_is : (word from : ℕ) → from < 64 → masked word from ≡ bit_and word (2 ^ 64 - 2 ^ from)
mask_is word from within = ap (bit_and word) (ones_shl 64 from (omega (arith, within)))

least_one : (n : ℕ) → n < 2 → min n 1 ≡ 0 → n ≡ 0
least_one n below is = omega (arith, below, is)

pub masked_bit : (word from i : ℕ) → from < 64 → from ≤ i → i < 64 → bit_at (masked word from) i ≡ 0 → bit_at word i ≡ 0
masked_bit word from i within above below zero =
    let both : min (bit_at word i) (bit_at (2 ^ 64 - 2 ^ from) i) ≡ 0 =
    sym (bit_at_and word (2 ^ 64 - 2 ^ from) i) ∙ (ap (λ (n : ℕ). bit_at n i) (sym (mask_is word from within)) ∙ zero) in
    least_one (bit_at word i) (bit_at-lt word i) (subst (λ (b : ℕ). min (bit_at word i) b ≡ 0) (bit_at_mask_inside from 64 i above below) both)

below_word : (n m : ℕ) → n < 2 ^ 64 → m ≤ n → m < 2 ^ 64
below_word n m fits less = omega (arith, fits, less)

pub masked_fits : (word from : ℕ) → from < 64 → word < 2 ^ 64 → masked word from ≢ 0
    → (trailing_zeros w64 (masked word from) < 64) × (bit_at (masked word from) (trailing_zeros w64 (masked word from)) ≡ 1)
    × ((i : ℕ) → i < trailing_zeros w64 (masked word from) → bit_at (masked word from) i ≡ 0)
masked_fits word from within fits some = bit_at-trailing_zeros w64 (masked word from) (omega (arith, some)) (below_word word (masked word from) fits (and_le_l word _))

none_of_zero : (n : ℕ) → min n 0 ≡ 1 → ⊥
none_of_zero n is = absurd (omega (arith, is))

pub masked_from : (word from : ℕ) → from < 64 → word < 2 ^ 64 → masked word from ≢ 0 → from ≤ trailing_zeros w64 (masked word from)
masked_from word from within fits some = at (nat_lt (trailing_zeros w64 (masked word from)) from) refl
  where
    at : (b : Bool) → nat_lt (trailing_zeros w64 (masked word from)) from ≡ b → from ≤ trailing_zeros w64 (masked word from)
    at true less =
        let i : ℕ = trailing_zeros w64 (masked word from) in
        let one : min (bit_at word i) (bit_at (2 ^ 64 - 2 ^ from) i) ≡ 1 =
        sym (bit_at_and word (2 ^ 64 - 2 ^ from) i) ∙ (ap (λ (n : ℕ). bit_at n i) (sym (mask_is word from within)) ∙ (masked_fits word from within fits some).1) in
        absurd (none_of_zero (bit_at word i) (subst (λ (b : ℕ). min (bit_at word i) b ≡ 1) (bit_at_mask_below from 64 i (ltb-true _ _ less)) one))
    at false more = ltb-false _ _ more
