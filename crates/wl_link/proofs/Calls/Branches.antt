-- What a choice between two comes to, whichever it is.
use Rattle.std.proofs.Common.{◌≡◌, ◌⊎◌, Bool, true, false, Option, None, Some, Result, Ok, Err, MatchResult, MatchBool, MatchOption, refl, sym, true≢false}
use mathlib.Core.Logic.{inl, inr}

-- ---- one of the two

pub either_option : {A P : Type 0} {Q : A → Type 0} (o : Option A) → MatchOption o P Q → ((o ≡ None) × P) ⊎ ((x : A) × (o ≡ Some x) × Q x)
either_option None p = inl (refl, p)
either_option (Some x) q = inr (x, refl, q)

pub either_result : {A E : Type 0} {P : A → Type 0} {Q : E → Type 0} (r : Result A E) → MatchResult r P Q → ((x : A) × P x) ⊎ ((e : E) × Q e)
either_result (Ok x) p = inl (x, p)
either_result (Err e) q = inr (e, q)

pub either_bool : {P Q : Type 0} (b : Bool) → MatchBool b P Q → P ⊎ Q
either_bool true p = inl p
either_bool false q = inr q

-- ---- two of one choice

pub both_option : {A P P' : Type 0} {Q Q' : A → Type 0} (o : Option A) → MatchOption o P Q → MatchOption o P' Q'
    → ((o ≡ None) × P × P') ⊎ ((x : A) × (o ≡ Some x) × Q x × Q' x)
both_option None p p' = inl (refl, p, p')
both_option (Some x) q q' = inr (x, refl, q, q')

pub both_result : {A E : Type 0} {P P' : A → Type 0} {Q Q' : E → Type 0} (r : Result A E) → MatchResult r P Q → MatchResult r P' Q'
    → ((x : A) × P x × P' x) ⊎ ((e : E) × Q e × Q' e)
both_result (Ok x) p p' = inl (x, p, p')
both_result (Err e) q q' = inr (e, q, q')

pub both_bool : {P P' Q Q' : Type 0} (b : Bool) → MatchBool b P Q → MatchBool b P' Q' → (P × P') ⊎ (Q × Q')
both_bool true p p' = inl (p, p')
both_bool false q q' = inr (q, q')

-- ---- the same choice between others

pub map_bool : {P Q P' Q' : Type 0} (b : Bool) → (P → P') → (Q → Q') → MatchBool b P Q → MatchBool b P' Q'
map_bool true f g p = f p
map_bool false f g q = g q

pub map_result : {A E : Type 0} {P P' : A → Type 0} {Q Q' : E → Type 0} (r : Result A E) → ((x : A) → P x → P' x) → ((e : E) → Q e → Q' e)
    → MatchResult r P Q → MatchResult r P' Q'
map_result (Ok x) f g p = f x p
map_result (Err e) f g q = g e q

-- ---- a choice that is known

pub at_true : {P : Type 0} (Q : Type 0) (b : Bool) → b ≡ true → P → MatchBool b P Q
at_true Q true is p = p
at_true Q false is p = absurd (true≢false (sym is))

pub at_false : {Q : Type 0} (P : Type 0) (b : Bool) → b ≡ false → Q → MatchBool b P Q
at_false P true is q = absurd (true≢false is)
at_false P false is q = q
