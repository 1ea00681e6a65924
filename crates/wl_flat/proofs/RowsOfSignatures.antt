-- Rows that are written one after the other to the front of lent memory.
use Rattle.std.proofs.Common.{◌≡◌, ◌≤◌, ◌+◌, ◌==◌, ◌&&◌, not, Bool, false, Some, None, ℕ, suc, zero, List, [], ◌∷◌, length, take, drop, arith, refl}
use Rattle.std.proofs.Math.ListN.{set}
use Rattle.std.proofs.lemmas.Grind.{common_steps}
use Rattle.std.proofs.lemmas.List.{take-append-drop}
use Rattle.wl_flat.specs.Flat.{over_front}
use Rattle.wl_flat.specs.Signatures.{arguments_said, kind_of, row_of}
use Rattle.wl_flat.specs.declared.rows.ArgumentRow.{ArgumentRow}

-- the next row behind those that are written
pub over_front-next : {X : Type 0} → (rows memory rest : List X) (n : ℕ) (x : X) → drop n rows ≡ x ∷ rest → length rows ≤ length memory
    → set (over_front (take n rows) memory) n x ≡ over_front (take (n + 1) rows) memory
over_front-next [] memory rest zero x at room = grind (arith, common_steps)
over_front-next [] memory rest (suc n) x at room = grind (arith, common_steps)
over_front-next (y ∷ rows) [] rest n x at room = grind (arith, common_steps)
over_front-next (y ∷ rows) (z ∷ memory) rest zero x at room = grind (arith, common_steps)
over_front-next (y ∷ rows) (z ∷ memory) rest (suc n) x at room = grind (arith, common_steps, over_front-next rows memory rest n x at (omega arith))

-- none is left
pub all_taken : {X : Type 0} → (rows : List X) (n : ℕ) → drop n rows ≡ [] → take n rows ≡ rows
all_taken rows n e = grind (arith, common_steps, take-append-drop n rows)

-- the rows behind the first that is left
behind_first : {X : Type 0} → (rows rest : List X) (n : ℕ) (x : X) → x ∷ rest ≡ drop n rows → rest ≡ drop (n + 1) rows
behind_first [] rest zero x e = grind (arith, common_steps)
behind_first [] rest (suc n) x e = grind (arith, common_steps)
behind_first (y ∷ rows) rest zero x e = grind (arith, common_steps)
behind_first (y ∷ rows) rest (suc n) x e = grind (arith, common_steps, behind_first rows rest n x e)

-- what a letter says of the rows that are left
pub record Next (rows : List ArgumentRow) (n k : ℕ) (null : Bool) (rest : List ℕ) : Type 0 where
  pub row : drop n rows ≡ row_of null k ∷ drop (n + 1) rows
  pub others : arguments_said false rest ≡ Some (drop (n + 1) rows)

pub next_row : (rows : List ArgumentRow) (n k b : ℕ) (null : Bool) (rest : List ℕ) → arguments_said null (b ∷ rest) ≡ Some (drop n rows)
    → (b == 63 && not null) ≡ false → kind_of b ≡ Some k → Next rows n k null rest
next_row rows n k b null rest said letter kind = elim (arguments_said false rest) as (λ o. arguments_said false rest ≡ o → Next rows n k null rest) [
  | None ↦ λ e. grind (arith, common_steps, e, said, letter, kind)
  | Some r ↦ λ e.
      let is : row_of null k ∷ r ≡ drop n rows = grind (arith, common_steps, e, said, letter, kind) in
      let behind : r ≡ drop (n + 1) rows = behind_first rows r n (row_of null k) is in
      record { row = grind (arith, common_steps, is, behind); others = grind (arith, common_steps, e, behind) }
] refl

-- without a kind there is no row
pub no_row : (rows : List ArgumentRow) (n b : ℕ) (null : Bool) (rest : List ℕ) → arguments_said null (b ∷ rest) ≡ Some (drop n rows)
    → (b == 63 && not null) ≡ false → kind_of b ≡ None → ⊥
no_row rows n b null rest said letter kind = grind (arith, common_steps, said, letter, kind)
