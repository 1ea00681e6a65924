-- Writing into a slice, as the functions inside the writer say it.
use Rattle.std.specs.Prelude.{Bool, true, false, IsTrue, ℕ, ◌+◌, List, [], ◌∷◌, ◌++◌, length, take, drop, Some}
use Rattle.std.specs.List.{flat_map, sum_by}
use Rattle.wl_wire.specs.declared.argument.Argument.TheVariants as arg
use Rattle.wl_wire.specs.declared.argument.Argument.{Argument}
use Rattle.wl_wire.specs.declared.argument.Token.{Token}
use Rattle.wl_wire.specs.Message.{pad_len}

-- the slice with these bytes from that place on
unfoldable pub overwritten : List ℕ → ℕ → List ℕ → List ℕ
overwritten old at bytes = take at old ++ bytes ++ drop (at + length bytes) old

-- how many bytes a string or an array of n bytes takes, with its count and its padding
abbrev pub counted_len : ℕ → ℕ
counted_len n = 4 + n + pad_len n

-- how many bytes the argument takes
abbrev pub piece_len : {Id : Type 0} → Argument Id Token → ℕ
piece_len (arg.Str (Some text)) = counted_len (length text + 1)
piece_len (arg.Array bytes) = counted_len (length bytes)
piece_len (arg.Fd _) = 0
piece_len _ = 4

-- how many bytes a message with these arguments takes, whatever the numbers of its ids are
abbrev pub bytes_of : {Id : Type 0} → List (Argument Id Token) → ℕ
bytes_of args = 8 + sum_by piece_len args

-- the token of an argument that has one
abbrev pub token_of : {Id : Type 0} → Argument Id Token → List Token
token_of (arg.Fd t) = t ∷ []
token_of _ = []

abbrev pub tokens_of : {Id : Type 0} → List (Argument Id Token) → List Token
tokens_of args = flat_map token_of args

-- whether the argument is a word: a number or the id of an object
abbrev pub is_word : {Id : Type 0} → Argument Id Token → Bool
is_word (arg.Str _) = false
is_word (arg.Array _) = false
is_word (arg.Fd _) = false
is_word _ = true

abbrev pub IsWord : {Id : Type 0} → Argument Id Token → Type 0
IsWord a = IsTrue (is_word a)
