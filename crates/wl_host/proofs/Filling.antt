-- Lent memory that is filled item by item.
use Rattle.std.proofs.Common.{◌≡◌, ◌≤◌, ◌<◌, ℕ, ◌+◌, ◌++◌, ◌∷◌, [], List, get_or, length, map, drop, drop-cons, min, nat_lt, true, false, add-one, arith, append_assoc, refl, MutBor, length-append}
use Rattle.std.proofs.lemmas.Fn.{chained_keeps}
use Rattle.std.proofs.lemmas.Grind.{common_steps}
use Rattle.std.proofs.lemmas.List.{map-append, take-append-le, take_all, length-map}
use Rattle.std.proofs.Math.Seq.{set-append_seam}
use Rattle.std.specs.List.{FoldsTo}
use Rattle.std.specs.Prelude.{MatchOption, None, Ok, Err, Option, Result, Some}
use Rattle.wl_host.specs.Lists.{filled, with_next, next_count}

pub count-next : (n : ℕ) → next_count (min n 18446744073709551615) ≡ min (n + 1) 18446744073709551615
count-next n = omega arith

drop_one : {A : Type 0} (rows : List A) (i : ℕ) (d : A) → i < length rows → drop i rows ≡ get_or rows i d ∷ drop (i + 1) rows
drop_one rows i d within = rw add-one (drop-cons rows i d within)

next_fits : {X : Type 0} (items lent : List X) (x : X) → length items < length lent → with_next (filled items lent) (length items) x ≡ filled (items ++ x ∷ []) lent
next_fits {X} items lent x h = grind (arith, common_steps, take_all {A = X}, drop_one lent (length items) x h, set-append_seam items (get_or lent (length items) x) (drop (length items + 1) lent) x, append_assoc items (x ∷ []) (drop (length items + 1) lent))

next_missed : {X : Type 0} (items lent : List X) (n : ℕ) (x : X) → length lent ≤ n → length lent ≤ length items → with_next (filled items lent) n x ≡ filled (items ++ x ∷ []) lent
next_missed items lent n x h k = grind (arith, common_steps, take-append-le)

pub filled-next : {X : Type 0} (items lent : List X) (n : ℕ) (x : X) → n ≡ min (length items) 18446744073709551615 → length lent ≤ 18446744073709551615
    → with_next (filled items lent) n x ≡ filled (items ++ x ∷ []) lent
filled-next items lent n x is fits = elim (nat_lt (length items) (length lent)) as (λ b. nat_lt (length items) (length lent) ≡ b → with_next (filled items lent) n x ≡ filled (items ++ x ∷ []) lent) [
  | true ↦ λ e. let l : length items < length lent = grind (arith, e) in let m : n ≡ length items = omega arith in rw m (next_fits items lent x l)
  | false ↦ λ e. let l : length lent ≤ length items = grind (arith, e) in next_missed items lent n x (omega arith) l
] refl

pub filled_none : {X : Type 0} (lent : List X) → lent ≡ filled [] lent
filled_none lent = grind (arith, common_steps)

-- one item was put into the lent memory
pub record Puts {A X : Type 0} (item : A → X) (p : MutBor (List X) × MutBor ℕ) (x : A) (q : MutBor (List X) × MutBor ℕ) : Type 0 where
  pub same_lent : q.0.ghost_name ≡ p.0.ghost_name
  pub same_count : q.1.ghost_name ≡ p.1.ghost_name
  pub list : q.0.now ≡ with_next p.0.now p.1.now (item x)
  pub count : q.1.now ≡ next_count p.1.now

-- all of them were
pub record PutsAll {A X : Type 0} (item : A → X) (p : MutBor (List X) × MutBor ℕ) (xs : List A) (q : MutBor (List X) × MutBor ℕ) : Type 0 where
  pub same_lent : q.0.ghost_name ≡ p.0.ghost_name
  pub same_count : q.1.ghost_name ≡ p.1.ghost_name
  pub list : q.0.now ≡ filled (map item xs) p.0.now
  pub count : q.1.now ≡ min (length xs) 18446744073709551615

module _ {A X : Type 0} (item : A → X) where
  one_more : (p : MutBor (List X) × MutBor ℕ) → length p.0.now ≤ 18446744073709551615 → (xs : List A) (q : MutBor (List X) × MutBor ℕ) (x : A) (v : MutBor (List X) × MutBor ℕ)
      → PutsAll item p xs q → Puts item q x v → PutsAll item p (xs ++ x ∷ []) v
  one_more p fits xs q x v j r = record {
    same_lent = cc;
    same_count = cc;
    list = rw (r.list, j.list, map-append) (filled-next (map item xs) p.0.now q.1.now (item x) (rw (j.count, length-map) refl) fits);
    count = rw (r.count, j.count, length-append) (count-next (length xs));
  }

  pub puts_all : (step : MutBor (List X) × MutBor ℕ → A → MutBor (List X) × MutBor ℕ → Type 0) → ((p : _) (x : A) (q : _) → step p x q → Puts item p x q)
      → (xs : List A) (p q : MutBor (List X) × MutBor ℕ) → p.1.now ≡ 0 → length p.0.now ≤ 18446744073709551615 → FoldsTo step p xs q → PutsAll item p xs q
  puts_all step each xs p q zero fits folds =
      chained_keeps step (PutsAll item p) (λ ys r x v j s. one_more p fits ys r x v j (each r x v s)) xs p q
      (record { same_lent = refl; same_count = refl; list = filled_none p.0.now; count = zero }) folds

-- what was found of what was asked for: nothing is found where the answer is not `Err`
pub found_all : {A E : Type 0} (o : Option A) (r : Result (Unit {0}) E) (e : E) (S N : Type 0) (F G : A → Type 0)
    → MatchOption o ((r ≡ Err e) × S) (λ x. (r ≡ Ok tt) × F x) → r ≡ Ok tt → ((x : A) → F x → G x) → MatchOption o N G
found_all None r e S N F G m is h = let n = m.0 in absurd (cc)
found_all (Some x) r e S N F G m is h = h x m.1
