-- The lines of an input, and texts of lines.
use Rattle.std.specs.Prelude.{ℕ, List, [], ◌∷◌, ◌++◌, if◌then◌else◌}
use Rattle.std.specs.List.{flat_map}
use Rattle.std.specs.Str.{bytes_eq}
use Rattle.wl_relay.specs.Words.{parts}

-- a line, without its line feed
abbrev pub Line : Type 0
Line = List ℕ

-- what stands after the last line feed is a line if it is not empty
abbrev pub whole_lines : List Line → List Line
whole_lines [] = []
whole_lines (line ∷ []) = if bytes_eq line [] then [] else line ∷ []
whole_lines (line ∷ next ∷ rest) = line ∷ whole_lines (next ∷ rest)

abbrev pub lines : List ℕ → List Line
lines input = whole_lines (parts 10 input)

-- a line with its line feed
abbrev pub fed : Line → List ℕ
fed line = line ++ 10 ∷ []

abbrev pub text_of : List Line → List ℕ
text_of all = flat_map fed all
