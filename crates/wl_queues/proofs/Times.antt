-- How often an object is in a list, up to a place.
use Rattle.std.proofs.Common.{◌≡◌, ℕ, ◌+◌, ◌<◌, ◌≤◌, List, length, get_or, take, Bool, true, ap, ◌∙◌, arith}
use Rattle.std.specs.Prelude.{if◌then◌else◌, ◌==◌, cond}
use Rattle.std.proofs.lemmas.Bool.Decides.{nat_tests}
use Rattle.std.proofs.lemmas.List.Sums.{count_by-le-length, sum_by-take-le, sum_by_more}
use Rattle.wl_queues.specs.Events.{times_in}

pub flip : (a b : ℕ) → (a == b) ≡ (b == a)
flip a b = grind (arith, nat_tests)

pub itself : (a : ℕ) → (a == a) ≡ true
itself a = grind (arith, nat_tests)

pub times-more : (p : ℕ) (xs : List ℕ) (i : ℕ) → i < length xs → times_in p (take (i + 1) xs) ≡ times_in p (take i xs) + (if p == get_or xs i 0 then 1 else 0)
times-more p xs i lt = sum_by_more (λ n. cond (n == p) 1 0) xs i 0 lt ∙ ap (λ b. times_in p (take i xs) + cond b 1 0) (flip (get_or xs i 0) p)

abbrev one_if : Bool → ℕ
one_if b = if b then 1 else 0

-- the object at this place is in the list once more
pub times-next : (xs : List ℕ) (i : ℕ) → i < length xs → times_in (get_or xs i 0) (take i xs) + 1 ≤ times_in (get_or xs i 0) xs
times-next xs i lt =
    omega (arith, times-more (get_or xs i 0) xs i lt, ap one_if (itself (get_or xs i 0)), sum_by-take-le (λ n. cond (n == get_or xs i 0) 1 0) xs (i + 1))

pub times-all : (p : ℕ) (xs : List ℕ) → times_in p xs ≤ length xs
times-all p xs = count_by-le-length (λ n. n == p) xs
