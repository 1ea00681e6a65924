-- Bytes as text.
use Rattle.std.specs.Prelude.{ℕ, ◌/◌, ◌%◌, List, [], ◌∷◌, ◌++◌, false}
use Rattle.std.specs.Fmt.{digit_glyph}
use Rattle.std.specs.List.{flat_map}

-- a byte's two digits, in lower case
abbrev pub hex_digits : ℕ → List ℕ
hex_digits n = digit_glyph false (n / 16) ∷ digit_glyph false (n % 16) ∷ []

-- a byte's digits after a space
abbrev pub spaced_digits : ℕ → List ℕ
spaced_digits n = 32 ∷ hex_digits n

-- the bytes with one space between
abbrev pub hex_text : List ℕ → List ℕ
hex_text [] = []
hex_text (n ∷ rest) = hex_digits n ++ flat_map spaced_digits rest
