-- The first line of a log.
use Rattle.std.specs.Prelude.{◌≡◌, ℕ, ◌<◌, List, [], ◌∷◌, length, map, slice_index_or}
use Rattle.std.proofs.Common.{ap, arith, sym}

pub first_of_log : {A : Type 0} (f : A → List ℕ) (items : List A) (x : A) → 0 < length items → x ≡ slice_index_or items 0 x
    → (rest : List (List ℕ)) × (map f items ≡ f x ∷ rest)
first_of_log f [] x some is = absurd (omega (arith, some))
first_of_log f (y ∷ ys) x some is = (map f ys, ap (λ (z : _). f z ∷ map f ys) (sym is))
