-- The bytes of a string.
use Rattle.std.specs.Prelude.{◌≢◌, ℕ, List, All}

-- no byte is zero
abbrev pub HasNoZero : List ℕ → Type 0
HasNoZero bytes = All (λ b. b ≢ 0) bytes
