-- The next power of two.
use Rattle.std.proofs.Common.{◌≡◌, ℕ, ◌+◌, ◌*◌, ◌/◌, ◌^◌, ◌-◌, ◌<◌, ◌≤◌, ◌⊎◌, max, inl, inr, ◌∙◌, ap, arith}
use Rattle.std.proofs.Math.Nat.{pow-le-pow_right}
use Rattle.std.proofs.lemmas.Bool.{cases_lt}
use Rattle.std.proofs.lemmas.Grind.{pow_more}
use Rattle.std.specs.Int.{IsPowerOfTwo, IsNextPowerOfTwo}
use Rattle.wl_link.specs.Link.{IsLimit}

-- half of a power of two is not below each lower one
below_half : (j k : ℕ) → j < k → 2 ^ j ≤ 2 ^ k / 2
below_half j k lt =
    let before : k ≡ k - 1 + 1 = omega arith in
    let double : 2 ^ k ≡ 2 ^ (k - 1) * 2 = ap (λ (n : ℕ). 2 ^ n) before ∙ pow_more 2 (k - 1) in
    let le : 2 ^ j ≤ 2 ^ (k - 1) = pow-le-pow_right (omega arith) (omega arith) in
    omega arith

least : (n limit p : ℕ) → IsNextPowerOfTwo n limit → 0 < n → IsPowerOfTwo p → n ≤ p → limit ≤ p
least n limit p next pos power le = at (cases_lt power.0 next.0.0)
  where
    at : (power.0 < next.0.0) ⊎ (next.0.0 ≤ power.0) → limit ≤ p
    at (inl lt) =
        let half : 2 ^ power.0 ≤ 2 ^ next.0.0 / 2 = below_half power.0 next.0.0 lt in
        let same : limit / 2 ≡ 2 ^ next.0.0 / 2 = ap (λ (x : ℕ). x / 2) next.0.1 in
        let p_is : p ≡ 2 ^ power.0 = power.1 in
        let upper : limit / 2 < max 1 n = next.2 in
        absurd (omega arith)
    at (inr up) =
        let le : 2 ^ next.0.0 ≤ 2 ^ power.0 = pow-le-pow_right (omega arith) up in
        let p_is : p ≡ 2 ^ power.0 = power.1 in
        let limit_is : limit ≡ 2 ^ next.0.0 = next.0.1 in
        omega arith

pub rounded_is_limit : (asked n limit : ℕ) → asked ≤ 2 ^ 63 → n ≡ max asked 4096 → IsNextPowerOfTwo n limit → IsLimit asked limit
rounded_is_limit asked n limit small larger next =
    (λ _. (next.0, omega (arith, next.1), omega (arith, next.1), λ p power le least_le. least n limit p next (omega arith) power (omega arith)), λ lt. absurd (omega arith))
