-- What is among the elements of a list.
use Rattle.std.proofs.Common.{◌≡◌, ◌⊎◌, zero, suc, Bool, true, List, [], ◌∷◌, ◌++◌, map, refl, ap, arith, not-suc-le-zero, le_of_suc-le-suc, true≢false}
use mathlib.Core.Logic.{inl, inr}
use Rattle.std.specs.Prelude.{All, Contains}
use Rattle.std.specs.List.{filter}
use Rattle.wl_server_client.specs.Deeds.{IsAmong}

module _ {A : Type 0} where
  pub among_first : (xs others : List A) (x : A) → IsAmong xs x → IsAmong (xs ++ others) x
  among_first [] others x among = absurd among
  among_first (y ∷ xs) others x (inl is) = inl is
  among_first (y ∷ xs) others x (inr among) = inr (among_first xs others x among)

  pub among_later : (xs others : List A) (x : A) → IsAmong others x → IsAmong (xs ++ others) x
  among_later [] others x among = among
  among_later (y ∷ xs) others x among = inr (among_later xs others x among)

  pub among_both : (xs others : List A) (x : A) → IsAmong (xs ++ others) x → IsAmong xs x ⊎ IsAmong others x
  among_both [] others x among = inr among
  among_both (y ∷ xs) others x (inl is) = inl (inl is)
  among_both (y ∷ xs) others x (inr among) = elim (among_both xs others x among) [ inl a ↦ inl (inr a) | inr b ↦ inr b ]

  pub among_filter : (test : A → Bool) (xs : List A) (x : A) → IsAmong (filter test xs) x → IsAmong xs x × (test x ≡ true)
  among_filter test [] x among = absurd among
  among_filter test (y ∷ ys) x among = grind (arith, among_filter test ys x)

  pub filter_among : (test : A → Bool) (xs : List A) (x : A) → IsAmong xs x → test x ≡ true → IsAmong (filter test xs) x
  filter_among test [] x among pass = absurd among
  filter_among test (y ∷ ys) x among pass = grind (arith, true≢false, filter_among test ys x)

module _ {A B : Type 0} (f : A → B) where
  pub among_map : (xs : List A) (y : B) → IsAmong (map f xs) y → (x : A) × IsAmong xs x × (f x ≡ y)
  among_map [] y among = absurd among
  among_map (x ∷ xs) y (inl e) = (x, inl refl, e)
  among_map (x ∷ xs) y (inr among) = let (z, there, is) = among_map xs y among in (z, inr there, is)

  pub map_among : (xs : List A) (x : A) → IsAmong xs x → IsAmong (map f xs) (f x)
  map_among [] x among = absurd among
  map_among (y ∷ ys) x (inl e) = inl (ap f e)
  map_among (y ∷ ys) x (inr among) = inr (map_among ys x among)

pub all_among : {A : Type 0} (P : A → Type 0) (xs : List A) → ((x : A) → IsAmong xs x → P x) → All P xs
all_among P [] each k d lt = absurd (not-suc-le-zero lt)
all_among P (x ∷ xs) each zero d lt = each x (inl refl)
all_among P (x ∷ xs) each (suc k) d lt = all_among P xs (λ y among. each y (inr among)) k d (le_of_suc-le-suc lt)

pub among_contains : {A : Type 0} (xs : List A) (x : A) → Contains xs x → IsAmong xs x
among_contains [] x (k, lt, is) = absurd (not-suc-le-zero lt)
among_contains (y ∷ xs) x (zero, lt, is) = inl is
among_contains (y ∷ xs) x (suc k, lt, is) = inr (among_contains xs x (k, le_of_suc-le-suc lt, is))

pub contains_among : {A : Type 0} (xs : List A) (x : A) → IsAmong xs x → Contains xs x
contains_among [] x among = absurd among
contains_among (y ∷ xs) x (inl is) = (zero, omega arith, is)
contains_among (y ∷ xs) x (inr among) = let (k, lt, is) = contains_among xs x among in (suc k, omega (arith, lt), is)
