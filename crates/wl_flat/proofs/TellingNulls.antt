-- The number that tells of a forbidden null says which is the first.
use Rattle.std.proofs.Common.{◌≡◌, ◌∙◌, ◌<◌, ◌≤◌, ◌+◌, ℕ, zero, suc, Bool, true, false, List, [], ◌∷◌, None, Option, Some, ap, arith, cond, drop, length, refl, subst, sym, true≢false}
use Rattle.std.proofs.lemmas.Bool.Decides.{nat_tests}
use Rattle.std.proofs.lemmas.Iterator.Adapters.{position_from-zero}
use Rattle.std.proofs.lemmas.List.{drop-drop}
use Rattle.std.specs.List.{position_from, zip}
use Rattle.std.specs.Prelude.{IsSomeAnd, IsTrue, MatchOption, slice_get}
use Rattle.wl_wire.specs.declared.argument.Argument.{Argument}
use Rattle.wl_wire.specs.declared.argument.ArgumentType.{ArgumentType}
use Rattle.wl_wire.specs.declared.argument.Token.{Token}
use Rattle.wl_flat.specs.Flat.{count_number}
use Rattle.wl_flat.specs.Nulls.{IsForbiddenAt, TellsNull, counted_from_one, forbidden_null, is_forbidden, is_refused}
use Rattle.wl_flat.specs.declared.flat.FlatObjectId.{FlatObjectId}
use Rattle.wl_flat.specs.declared.status.Status.TheVariants as status

counts : (n : ℕ) → count_number (n + 1) ≡ 0 → ⊥
counts n h = grind (arith, nat_tests)

none_from_zero : (r : Option ℕ) → counted_from_one r ≡ 0 → r ≡ None
none_from_zero None h = refl
none_from_zero (Some n) h = absurd (counts n h)

no_argument : (type : Option ArgumentType) → IsSomeAnd type (λ _. ⊥) → ⊥
no_argument None h = h
no_argument (Some type) h = h

not_this : (b : Bool) → ¬ (IsTrue b) → b ≡ false
not_this true h = absurd (h refl)
not_this false h = refl

none_behind : (b : Bool) (i : ℕ) (found : Option ℕ) → cond b (Some i) found ≡ None → (b ≡ false) × (found ≡ None)
none_behind true i found h = let no : ⊥ = cc in absurd no
none_behind false i found h = (refl, h)

-- what stands at a place stands first behind those before it
pub first_behind : {A : Type 0} (xs : List A) (i : ℕ) → slice_get xs i ≡ slice_get (drop i xs) 0
first_behind [] zero = refl
first_behind [] (suc i) = refl
first_behind (x ∷ xs) zero = refl
first_behind (x ∷ xs) (suc i) = first_behind xs i

nothing_behind : {A : Type 0} (xs : List A) (i : ℕ) → length xs ≤ i → drop i xs ≡ []
nothing_behind [] zero h = refl
nothing_behind [] (suc i) h = refl
nothing_behind (x ∷ xs) zero h = absurd (omega arith)
nothing_behind (x ∷ xs) (suc i) h = nothing_behind xs i (omega arith)

module _ {Id : Type 0} (flat : Id → FlatObjectId) where
  -- the place of the first one, in lists whose places are counted from i on
  first_from : (signature : List ArgumentType) (args : List (Argument Id Token)) (i n k : ℕ) → k ≡ i + n → IsForbiddenAt flat signature args n
      → ((m : ℕ) → m < n → ¬ (IsForbiddenAt flat signature args m)) → position_from (is_forbidden flat) i (zip signature args) ≡ Some k
  first_from [] args i n k is here before = absurd here
  first_from (type ∷ signature) [] i zero k is here before = absurd here
  first_from (type ∷ signature) [] i (suc n) k is here before = absurd (no_argument (slice_get signature n) here)
  first_from (type ∷ signature) (a ∷ args) i zero k is here before =
      let same : i ≡ k = omega arith in
      rw here (ap Some same)
  first_from (type ∷ signature) (a ∷ args) i (suc n) k is here before =
      rw (not_this (is_forbidden flat (type, a)) (before zero (omega arith)))
      (first_from signature args (i + 1) n k (omega arith) here (λ m h. before (suc m) (omega arith)))

  -- there is none
  none_from : (signature : List ArgumentType) (args : List (Argument Id Token)) (i n : ℕ) → position_from (is_forbidden flat) i (zip signature args) ≡ None
      → ¬ (IsForbiddenAt flat signature args n)
  none_from [] args i n none here = here
  none_from (type ∷ signature) [] i zero none here = here
  none_from (type ∷ signature) [] i (suc n) none here = no_argument (slice_get signature n) here
  none_from (type ∷ signature) (a ∷ args) i zero none here =
      true≢false (sym here ∙ (none_behind (is_forbidden flat (type, a)) i (position_from (is_forbidden flat) (i + 1) (zip signature args)) none).0)
  none_from (type ∷ signature) (a ∷ args) i (suc n) none here =
      none_from signature args (i + 1) n (none_behind (is_forbidden flat (type, a)) i (position_from (is_forbidden flat) (i + 1) (zip signature args)) none).1 here

  all_allowed : (signature : List ArgumentType) (args : List (Argument Id Token)) (i : ℕ) → ((n : ℕ) → ¬ (IsForbiddenAt flat signature args n))
      → position_from (is_forbidden flat) i (zip signature args) ≡ None
  all_allowed [] args i allowed = refl
  all_allowed (type ∷ signature) [] i allowed = refl
  all_allowed (type ∷ signature) (a ∷ args) i allowed =
      rw (not_this (is_forbidden flat (type, a)) (allowed zero)) (all_allowed signature args (i + 1) (λ n here. allowed (suc n) here))

  -- an argument is forbidden, or the search goes on behind it
  pub search_on : (types : List ArgumentType) (rest : List (Argument Id Token)) (i : ℕ) (a : Argument Id Token) (b : Bool)
      → MatchOption (slice_get types 0) (b ≡ false) (λ kind. b ≡ is_forbidden flat (kind, a))
      → position_from (is_forbidden flat) i (zip types (a ∷ rest)) ≡ cond b (Some i) (position_from (is_forbidden flat) (i + 1) (zip (drop 1 types) rest))
  search_on [] rest i a b h = rw h refl
  search_on (kind ∷ types) rest i a b h = rw h refl

  -- the search from a place on, at which an argument stands
  search_from : (signature : List ArgumentType) (args : List (Argument Id Token)) (i : ℕ) (a : Argument Id Token) (b : Bool) (found : Option ℕ)
      → drop i args ≡ a ∷ drop (i + 1) args
      → MatchOption (slice_get signature i) (b ≡ false) (λ kind. b ≡ is_forbidden flat (kind, a))
      → position_from (is_forbidden flat) i (zip (drop i signature) (drop i args)) ≡ found
      → found ≡ cond b (Some i) (position_from (is_forbidden flat) (i + 1) (zip (drop (i + 1) signature) (drop (i + 1) args)))
  search_from signature args i a b found d h w =
      let first = subst (λ type. MatchOption type (b ≡ false) (λ kind. b ≡ is_forbidden flat (kind, a))) (first_behind signature i) h in
      sym w ∙ (ap (λ rest. position_from (is_forbidden flat) i (zip (drop i signature) rest)) d
      ∙ (search_on (drop i signature) (drop (i + 1) args) i a b first
      ∙ ap (λ types. cond b (Some i) (position_from (is_forbidden flat) (i + 1) (zip types (drop (i + 1) args)))) (drop-drop 1 i signature)))

  -- it goes on behind one that is allowed
  pub search_goes_on : (signature : List ArgumentType) (args : List (Argument Id Token)) (i : ℕ) (a : Argument Id Token) (b : Bool) (found : Option ℕ)
      → drop i args ≡ a ∷ drop (i + 1) args
      → MatchOption (slice_get signature i) (b ≡ false) (λ kind. b ≡ is_forbidden flat (kind, a)) → b ≡ false
      → position_from (is_forbidden flat) i (zip (drop i signature) (drop i args)) ≡ found
      → position_from (is_forbidden flat) (i + 1) (zip (drop (i + 1) signature) (drop (i + 1) args)) ≡ found
  search_goes_on signature args i a b found d h allowed w =
      sym (search_from signature args i a b found d h w
      ∙ ap (λ b. cond b (Some i) (position_from (is_forbidden flat) (i + 1) (zip (drop (i + 1) signature) (drop (i + 1) args)))) allowed)

  -- it ends at one that is forbidden
  pub search_ends : (signature : List ArgumentType) (args : List (Argument Id Token)) (i : ℕ) (a : Argument Id Token) (b : Bool)
      → drop i args ≡ a ∷ drop (i + 1) args
      → MatchOption (slice_get signature i) (b ≡ false) (λ kind. b ≡ is_forbidden flat (kind, a)) → b ≡ true
      → position_from (is_forbidden flat) i (zip (drop i signature) (drop i args)) ≡ position_from (is_forbidden flat) 0 (zip signature args)
      → count_number (i + 1) ≡ forbidden_null flat signature args
  search_ends signature args i a b d h forbidden w =
      ap counted_from_one (sym (position_from-zero (is_forbidden flat) (zip signature args)
      ∙ (search_from signature args i a b _ d h w
      ∙ ap (λ b. cond b (Some i) (position_from (is_forbidden flat) (i + 1) (zip (drop (i + 1) signature) (drop (i + 1) args)))) forbidden)))

  none_left : (types : List ArgumentType) (i : ℕ) → position_from (is_forbidden flat) i (zip types []) ≡ None
  none_left [] i = refl
  none_left (kind ∷ types) i = refl

  -- it finds none
  pub search_fails : (signature : List ArgumentType) (args : List (Argument Id Token)) (i : ℕ) → length args ≤ i
      → position_from (is_forbidden flat) i (zip (drop i signature) (drop i args)) ≡ position_from (is_forbidden flat) 0 (zip signature args)
      → 0 ≡ forbidden_null flat signature args
  search_fails signature args i past w =
      let none = ap (λ rest. position_from (is_forbidden flat) i (zip (drop i signature) rest)) (nothing_behind args i past) ∙ none_left (drop i signature) i in
      ap counted_from_one (sym (position_from-zero (is_forbidden flat) (zip signature args) ∙ (sym w ∙ none)))

  pub tells_null : (signature : List ArgumentType) (args : List (Argument Id Token)) → TellsNull flat signature args (forbidden_null flat signature args)
  tells_null signature args = record {
    none = (
      λ zero n. none_from signature args 0 n (sym (position_from-zero (is_forbidden flat) (zip signature args)) ∙ none_from_zero _ zero),
      λ allowed. ap counted_from_one (position_from-zero (is_forbidden flat) (zip signature args) ∙ all_allowed signature args 0 allowed),
    );
    first = λ n is. ap counted_from_one (position_from-zero (is_forbidden flat) (zip signature args) ∙ first_from signature args 0 n n (omega arith) is.0 is.1);
  }

-- a message that is not refused has no such null
pub none_if_allowed : (n : ℕ) → is_refused true n ≡ false → n ≡ 0
none_if_allowed n h = grind (arith, nat_tests, is_refused)

-- there was no room
pub is_not_kept : status.Ok ≡ status.TooSmall → ⊥
is_not_kept is = cc
