-- Reasons for which a call is refused, in the order in which they are looked at: the first that holds decides.
use Rattle.std.specs.Prelude.{List, [], ◌∷◌, Bool, if◌then◌else◌, Option, None, Some}

module _ {Error : Type 0} where
  -- an error, if the condition holds
  abbrev pub when : Bool → Error → Option Error
  when holds error = if holds then Some error else None

  -- the first of the reasons that holds
  abbrev pub first_refusal : List (Option Error) → Option Error
  first_refusal [] = None
  first_refusal (None ∷ rest) = first_refusal rest
  first_refusal (Some error ∷ rest) = Some error
