-- The enums of the protocol, and the numbers that stand for their values on the wire.
use Rattle.std.specs.Prelude.{◌≡◌, ℕ, ◌==◌, List, [], ◌∷◌, Bool, true, false, if◌then◌else◌, Option, Some, IfSome, find, refl}
use Rattle.std.proofs.lemmas.Bool.{eqb-true}
use Rattle.std.specs.Option.{option_map_or}
use Rattle.wl_wire.specs.declared.enums.WEnum.{WEnum}
use Rattle.wl_wire.specs.declared.enums.WEnum.TheVariants.{Value, Unknown}

-- what a number is read as: its value, or the number itself
abbrev pub read_as : {T : Type 0} → (ℕ → Option T) → ℕ → WEnum T
read_as read n = option_map_or Value (read n) (Unknown n)

-- the number that stands for it
abbrev pub number_of : {T : Type 0} → (T → ℕ) → WEnum T → ℕ
number_of number (Value value) = number value
number_of number (Unknown n) = n

-- ---- for an enum whose values are listed

-- the value that the number stands for
abbrev pub value_in : {T : Type 0} → (T → ℕ) → List T → ℕ → Option T
value_in number values n = find (λ value. number value == n) values

-- it turns back into that number
pub value_in-turns_back : {T : Type 0} (number : T → ℕ) (values : List T) (n : ℕ) → IfSome (value_in number values n) (λ value. number value ≡ n)
value_in-turns_back number [] n = tt
value_in-turns_back number (value ∷ values) n = here (number value == n) refl (value_in-turns_back number values n)
  where
    here : (b : Bool) → (number value == n) ≡ b → IfSome (value_in number values n) (λ v. number v ≡ n)
        → IfSome (if b then Some value else value_in number values n) (λ v. number v ≡ n)
    here true e later = eqb-true (number value) n e
    here false e later = later
