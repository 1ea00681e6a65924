-- What is remembered in the place of an earlier announcement.
use Rattle.std.specs.Prelude.{◌≡◌, ◌≢◌, ℕ, zero, suc, ◌<◌, ◌==◌, Bool, true, false, List, [], ◌∷◌, ◌++◌, drop, length, set, take, if◌then◌else◌}
use Rattle.std.proofs.Common.{ap, arith, eq-eqb, get_or, refl, sym, ◌∙◌}
use Rattle.std.proofs.lemmas.Bool.{eqb-true}
use Rattle.wl_guard.specs.Known.{with_told}
use Rattle.wl_guard.specs.declared.session.Told.{Told}

-- at the front
front_other : (x a : Told) (ts : List Told) → x.number ≢ a.number → with_told (x ∷ ts) a ≡ x ∷ with_told ts a
front_other x a ts other = at (x.number == a.number) refl
  where
    at : (b : Bool) → (x.number == a.number) ≡ b → with_told (x ∷ ts) a ≡ x ∷ with_told ts a
    at true is = absurd (other (eqb-true x.number a.number is))
    at false is = ap (λ (b : Bool). if b then a ∷ ts else x ∷ with_told ts a) is

front_same : (x a : Told) (ts : List Told) → x.number ≡ a.number → with_told (x ∷ ts) a ≡ a ∷ ts
front_same x a ts same = at (x.number == a.number) refl
  where
    at : (b : Bool) → (x.number == a.number) ≡ b → with_told (x ∷ ts) a ≡ a ∷ ts
    at true is = ap (λ (b : Bool). if b then a ∷ ts else x ∷ with_told ts a) is
    at false is = let yes = eq-eqb x.number a.number same in let e : true ≡ false = sym yes ∙ is in absurd cc

-- one that is of another number stays
pub goes_on : (xs : List Told) (i : ℕ) (x a : Told) → i < length xs → x ≡ get_or xs i x → x.number ≢ a.number
    → take i xs ++ with_told (drop i xs) a ≡ take (suc i) xs ++ with_told (drop (suc i) xs) a
goes_on [] i x a within is other = absurd (omega arith)
goes_on (y ∷ ts) zero x a within is other = front_other y a ts (λ same. other (ap (λ (t : Told). t.number) is ∙ same))
goes_on (y ∷ ts) (suc i) x a within is other = ap (λ (l : List Told). y ∷ l) (goes_on ts i x a (omega arith) is other)

-- one of its number makes place for it
pub is_replaced : (xs : List Told) (i : ℕ) (x a : Told) → i < length xs → x ≡ get_or xs i x → x.number ≡ a.number
    → take i xs ++ with_told (drop i xs) a ≡ set xs i a
is_replaced [] i x a within is same = absurd (omega arith)
is_replaced (y ∷ ts) zero x a within is same = front_same y a ts (sym (ap (λ (t : Told). t.number) is) ∙ same)
is_replaced (y ∷ ts) (suc i) x a within is same = ap (λ (l : List Told). y ∷ l) (is_replaced ts i x a (omega arith) is same)
