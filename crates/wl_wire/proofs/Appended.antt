-- Elements that were put behind a list one by one.
use Rattle.std.proofs.Common.{◌≡◌, ◌++◌, ◌∷◌, [], List, ap, ◌∙◌, append_assoc}
use Rattle.std.specs.Prelude.{map}
use Rattle.std.proofs.lemmas.List.{map-append}

-- two of them
pub two_more : {B : Type 0} (base one two : List B) (x y : B) → one ≡ base ++ x ∷ [] → two ≡ one ++ y ∷ [] → two ≡ base ++ x ∷ y ∷ []
two_more {B} base one two x y is_one is_two = is_two ∙ ap (λ (l : List B). l ++ y ∷ []) is_one ∙ append_assoc base (x ∷ []) (y ∷ [])

module _ {A B : Type 0} (view : A → B) where
  -- one more is one more of what is seen
  one_more : (before after : List A) (a : A) (x : B) → after ≡ before ++ a ∷ [] → view a ≡ x → map view after ≡ map view before ++ x ∷ []
  one_more before after a x is seen = ap (map view) is ∙ map-append view before (a ∷ []) ∙ ap (λ y. map view before ++ y ∷ []) seen

  -- two more are two more of what is seen
  pub two_seen : (base one two : List A) (a b : A) (x y : B)
      → one ≡ base ++ a ∷ [] → two ≡ one ++ b ∷ [] → view a ≡ x → view b ≡ y → map view two ≡ map view base ++ x ∷ y ∷ []
  two_seen base one two a b x y is_one is_two seen_a seen_b =
      two_more (map view base) (map view one) (map view two) x y (one_more base one a x is_one seen_a) (one_more one two b y is_two seen_b)
