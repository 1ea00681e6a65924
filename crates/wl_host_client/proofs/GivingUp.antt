-- An object that is given up, by its number: the display stays.
use Rattle.std.proofs.Common.{◌≡◌, ◌≢◌, ℕ, Bool, true, false, refl, rules}
use Rattle.std.specs.Prelude.{◌==◌, MatchBool}

pub stays_as_display : {P : Type 0} (Q : Type 0) (n : ℕ) → n ≡ 1 → P → MatchBool (n == 1) P Q
stays_as_display Q n e p = rw e p

by_test : (P : Type 0) {Q : Type 0} (n : ℕ) (b : Bool) → b ≡ (n == 1) → n ≢ 1 → Q → MatchBool b P Q
by_test P n true e other q = absurd (search (rules, other))
by_test P n false e other q = q

pub leaves_as_other : (P : Type 0) {Q : Type 0} (n : ℕ) → n ≢ 1 → Q → MatchBool (n == 1) P Q
leaves_as_other P n other q = by_test P n _ refl other q
