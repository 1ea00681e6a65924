-- That the numbers which are given out, and limits, have one outcome.
use Rattle.std.proofs.Common.{◌≡◌, ℕ, ◌≤◌, ◌<◌, ◌^◌, Option, None, Some, is_some, sym, ap, ◌∙◌, true≢false, arith}
use mathlib.Core.Logic.{inl, inr}
use Rattle.std.proofs.Math.Nat.{le_antisymm}
use Rattle.std.proofs.lemmas.Bool.{cases_order}
use Rattle.wl_link.specs.Exchange.{nothing}
use Rattle.wl_link.specs.Link.{LinkState, AreLimits, IsFresh, IsLimit, LimitSet}
use Rattle.wl_link.specs.Store.{Range, Store, IsLeastAbsent, IsFull}

-- ---- numbers of a range

module _ {D : Type 0} (range : Range) (store : Store D) where
  pub full_not_absent : (n : ℕ) → IsFull range store → IsLeastAbsent range store n → ⊥
  full_not_absent n full least = true≢false (sym (full.each n least.within least.below) ∙ ap is_some least.absent)

  not_less_absent : (n m : ℕ) → IsLeastAbsent range store n → IsLeastAbsent range store m → n < m → ⊥
  not_less_absent n m one other less = true≢false (sym (other.least n one.within less) ∙ ap is_some one.absent)

  pub least_absent_one : (n m : ℕ) → IsLeastAbsent range store n → IsLeastAbsent range store m → n ≡ m
  least_absent_one n m one other =
      elim (cases_order n m) [
        | inl same ↦ same
        | inr (inl less) ↦ absurd (not_less_absent n m one other less)
        | inr (inr less) ↦ absurd (not_less_absent m n other one less)
      ]

-- ---- limits

limit_small : (asked n m : ℕ) → asked ≤ 2 ^ 63 → IsLimit asked n → IsLimit asked m → n ≡ m
limit_small asked n m small one other =
    let p = one.0 small in
    let q = other.0 small in
    le_antisymm (p.3 m q.0 q.1 q.2) (q.3 n p.0 p.1 p.2)

limit_one : (asked n m : ℕ) → IsLimit asked n → IsLimit asked m → n ≡ m
limit_one asked n m one other =
    elim (cases_order asked (2 ^ 63)) [
      | inl same ↦ limit_small asked n m (omega (arith, same)) one other
      | inr (inl less) ↦ limit_small asked n m (omega (arith, less)) one other
      | inr (inr more) ↦ one.1 more ∙ sym (other.1 more)
    ]

limits_one : (asked a b : Option ℕ) → AreLimits asked a → AreLimits asked b → a ≡ b
limits_one None a b none none' = none ∙ sym none'
limits_one (Some asked) a b (n, is, one) (m, is', other) = is ∙ ap Some (limit_one asked n m one other) ∙ sym is'

module _ {T : Type 0} where
  pub fresh_one : (transport : T) (asked : Option ℕ) (x y : LinkState T) → IsFresh transport asked x → IsFresh transport asked y → x ≡ y
  fresh_one transport asked x y (a, are, is) (b, are', is') =
      is ∙ ap (λ (l : Option ℕ). let link : LinkState T = record { transport = transport; incoming = nothing; incoming_capacity = 4096; outgoing = nothing; outgoing_capacity = 4096; limit = l } in link)
      (limits_one asked a b are are') ∙ sym is'

  pub limit_set_one : (before : LinkState T) (asked : Option ℕ) (x y : LinkState T) → LimitSet before asked x → LimitSet before asked y → x ≡ y
  limit_set_one before asked x y (a, are, is) (b, are', is') =
      is ∙ ap (λ (l : Option ℕ). record before { limit = l }) (limits_one asked a b are are') ∙ sym is'
