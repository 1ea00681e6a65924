-- What was made last under each number.
use Rattle.std.proofs.Common.{◌≡◌, ℕ, zero, suc, ◌<◌, List, [], ◌∷◌, ◌++◌, length, drop, Bool, true, false, Option, Some, None, refl, ap, ◌∙◌, arith, slice_set}
use Rattle.std.specs.Prelude.{slice_get, if◌then◌else◌}
use Rattle.std.specs.Str.{bytes_eq}
use Rattle.wl_wire.specs.Table.{InterfaceRow}
use Rattle.wl_bench.specs.Bench.{place_of, with_latest}

module _ {X : Type 0} where
  pub set_latest : (n : ℕ) (x : X) (ps : List (Option X)) → n < length ps → slice_set ps n (Some x) ≡ with_latest n x ps
  set_latest zero x [] lt = absurd (omega arith)
  set_latest zero x (p ∷ ps) lt = refl
  set_latest (suc n) x [] lt = absurd (omega arith)
  set_latest (suc n) x (p ∷ ps) lt = ap (λ (l : List (Option X)). p ∷ l) (set_latest n x ps (omega (arith, lt)))

  -- an empty place more changes nothing
  pub pads : (n : ℕ) (x : X) (ps : List (Option X)) → length ps < n → with_latest n x (ps ++ None ∷ []) ≡ with_latest n x ps
  pads zero x ps lt = absurd (omega arith)
  pads (suc n) x [] lt = refl
  pads (suc n) x (p ∷ ps) lt = ap (λ (l : List (Option X)). p ∷ l) (pads n x ps (omega (arith, lt)))

  pub ends : (n : ℕ) (x : X) (ps : List (Option X)) → length ps ≡ n → ps ++ Some x ∷ [] ≡ with_latest n x ps
  ends zero x [] e = refl
  ends zero x (p ∷ ps) e = absurd (omega (arith, e))
  ends (suc n) x [] e = absurd (omega (arith, e))
  ends (suc n) x (p ∷ ps) e = ap (λ (l : List (Option X)). p ∷ l) (ends n x ps (omega (arith, e)))

-- ---- the interface of a name

pub none_left : (name : List ℕ) (i : ℕ) (rows : List InterfaceRow) → slice_get rows i ≡ None → place_of name (drop i rows) ≡ 0
none_left name i [] e = at i
  where
    at : (i : ℕ) → place_of name (drop i []) ≡ 0
    at zero = refl
    at (suc i) = refl
none_left name zero (row ∷ rows) e = absurd (cc)
none_left name (suc i) (row ∷ rows) e = none_left name i rows e

pub found_at : (name : List ℕ) (i : ℕ) (rows : List InterfaceRow) (row : InterfaceRow) → slice_get rows i ≡ Some row
    → bytes_eq row.name name ≡ true → place_of name (drop i rows) ≡ 0
found_at name i [] row e same = absurd (cc)
found_at name zero (r ∷ rows) row e same =
    let is : r ≡ row = cc in
    ap (λ (b : Bool). if b then 0 else suc (place_of name rows)) (ap (λ (x : InterfaceRow). bytes_eq x.name name) is ∙ same)
found_at name (suc i) (r ∷ rows) row e same = found_at name i rows row e same

pub passed : (name : List ℕ) (i : ℕ) (rows : List InterfaceRow) (row : InterfaceRow) → slice_get rows i ≡ Some row
    → bytes_eq row.name name ≡ false → place_of name (drop i rows) ≡ suc (place_of name (drop (suc i) rows))
passed name i [] row e same = absurd (cc)
passed name zero (r ∷ rows) row e same =
    let is : r ≡ row = cc in
    ap (λ (b : Bool). if b then 0 else suc (place_of name rows)) (ap (λ (x : InterfaceRow). bytes_eq x.name name) is ∙ same)
passed name (suc i) (r ∷ rows) row e same = passed name i rows row e same
