-- A list in which one item is replaced, and numbers that differ.
use Rattle.std.proofs.Common.{◌≡◌, ◌≢◌, ℕ, suc, zero, false, List, [], ◌∷◌, Some, is_some, refl, sym, ap, ◌∙◌, true≢false}
use Rattle.std.specs.Prelude.{◌==◌, slice_get, slice_set}
use Rattle.std.proofs.lemmas.Bool.{eq-eqb, false≢true}

pub get_set_same : {A : Type 0} (xs : List A) (i : ℕ) (x y : A) → slice_get xs i ≡ Some x → slice_get (slice_set xs i y) i ≡ Some y
get_set_same [] i x y is = absurd (false≢true (ap is_some is))
get_set_same (z ∷ xs) zero x y is = refl
get_set_same (z ∷ xs) (suc i) x y is = get_set_same xs i x y is

pub get_set_other : {A : Type 0} (xs : List A) (i j : ℕ) (y : A) → i ≢ j → slice_get (slice_set xs i y) j ≡ slice_get xs j
get_set_other [] i j y differ = refl
get_set_other (z ∷ xs) zero zero y differ = absurd (differ refl)
get_set_other (z ∷ xs) zero (suc j) y differ = refl
get_set_other (z ∷ xs) (suc i) zero y differ = refl
get_set_other (z ∷ xs) (suc i) (suc j) y differ = get_set_other xs i j y (λ e. differ (ap suc e))

pub other_of : (i j : ℕ) → (i == j) ≡ false → i ≢ j
other_of i j differ e = true≢false (sym (eq-eqb i j e) ∙ differ)
