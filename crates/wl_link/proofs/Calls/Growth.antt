-- A storage that is doubled again and again.
use Rattle.std.proofs.Common.{◌≡◌, ℕ, ◌+◌, ◌*◌, ◌^◌, ◌<◌, Option, sym, ◌∙◌, ap, subst, below_more}
use Rattle.std.proofs.lemmas.Grind.{pow_more}
use Rattle.std.proofs.Math.Nat.{mul_assoc}
use Rattle.wl_link.specs.Link.{Wants}

-- so far each doubling was wanted
pub record Doubled (limit : Option ℕ) (needed size now : ℕ) : Type 0 where
  pub times : ℕ
  pub grown : now ≡ size * 2 ^ times
  pub wanted : (k : ℕ) → k < times → Wants limit needed (size * 2 ^ k)

pub doubled_again : (limit : Option ℕ) (needed size now now' : ℕ) → Doubled limit needed size now → Wants limit needed now → now' ≡ now * 2
    → Doubled limit needed size now'
doubled_again limit needed size now now' doubled wants e = record {
  times = doubled.times + 1;
  grown = e ∙ ap (λ (n : ℕ). n * 2) doubled.grown ∙ mul_assoc size (2 ^ doubled.times) 2 ∙ ap (λ (n : ℕ). size * n) (sym (pow_more 2 doubled.times));
  wanted = below_more (λ k. Wants limit needed (size * 2 ^ k)) doubled.times doubled.wanted (subst (λ (n : ℕ). Wants limit needed n) doubled.grown wants);
}
