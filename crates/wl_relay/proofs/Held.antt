-- What a writer holds after one write and another.
use Rattle.std.proofs.Common.{ℕ, List, ◌++◌, append_assoc, Option, None, Some, ap, ◌∙◌}
use Rattle.std.specs.Io.KnownBytes.{Appends, Keeps}

pub appends_more : (held mid after : Option (List ℕ)) (xs ys : List ℕ) → Appends held mid xs → Appends mid after ys → Appends held after (xs ++ ys)
appends_more None mid after xs ys h k = tt
appends_more (Some a) None after xs ys h k = absurd h
appends_more (Some a) (Some b) None xs ys h k = absurd k
appends_more (Some a) (Some b) (Some c) xs ys h k = k ∙ ap (λ (l : List ℕ). l ++ ys) h ∙ append_assoc a xs ys

pub keeps_after : (held mid after : Option (List ℕ)) (xs : List ℕ) → Appends held mid xs → Keeps mid after → Appends held after xs
keeps_after None mid after xs h k = tt
keeps_after (Some a) None after xs h k = absurd h
keeps_after (Some a) (Some b) None xs h k = absurd k
keeps_after (Some a) (Some b) (Some c) xs h k = k ∙ h
