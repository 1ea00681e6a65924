-- The words of the program's lines: numbers, bytes in hex, and lists of tokens.
use Rattle.std.specs.Prelude.{◌≡◌, ℕ, ◌<◌, ◌≤◌, ◌==◌, ◌/◌, ◌%◌, List, [], ◌∷◌, false, map, codes, pos, Option, MatchOption, Vec}
use Rattle.std.specs.Borrow.{Bor}
use Rattle.std.specs.Fmt.{decimal, digit_glyph}
use Rattle.std.specs.List.{All, AllZip, flat_map, slice_split}
use Rattle.std.specs.declared.alloc.Global.{Global}
use Rattle.wl_wire.specs.declared.argument.Token.{Token}

-- a word, or another piece of text, by its bytes
abbrev pub Word : Type 0
Word = List ℕ

-- what stands between the bytes of this value
abbrev pub parts : ℕ → Word → List Word
parts byte text = slice_split (λ b. b == byte) text

-- the words of a line: what stands between its spaces
abbrev pub words : Word → List Word
words line = parts 32 line

-- the words that a slice of them lends
abbrev pub spoken : List (Bor Word) → List Word
spoken ws = map (λ (w : Bor Word). w.now) ws

-- ---- numbers

-- the word is this number, in decimal digits without leading zeros
abbrev pub IsNumber : ℕ → Word → Type 0
IsNumber n word = (n ≤ 4294967295) × (word ≡ decimal n)

-- the word is these numbers with commas between, so it is one number at least
abbrev pub AreNumbers : List ℕ → Word → Type 0
AreNumbers numbers word = AllZip IsNumber numbers (parts 44 word)

-- ---- tokens

-- a token's number is not negative
abbrev pub token : ℕ → Token
token n = record { 0 = pos n }

-- the number of a token is at most this
abbrev pub IsTokenNumber : ℕ → Type 0
IsTokenNumber n = n ≤ 2147483647

-- the word for tokens: their numbers with commas between, or `-` for none
abbrev pub AreTokens : List Token → Word → Type 0
AreTokens [] word = word ≡ codes "-"
AreTokens (t ∷ tokens) word = (numbers : List ℕ) × AreNumbers numbers word × All IsTokenNumber numbers × (t ∷ tokens ≡ map token numbers)

-- ---- bytes

-- a byte
abbrev pub IsByte : ℕ → Type 0
IsByte b = b < 256

-- a byte's two digits, in lower case
abbrev pub hex_digits : ℕ → Word
hex_digits n = digit_glyph false (n / 16) ∷ digit_glyph false (n % 16) ∷ []

-- the bytes in hex
abbrev pub hex : List ℕ → Word
hex bytes = flat_map hex_digits bytes

-- the text is these bytes in hex
abbrev pub AreHex : List ℕ → Word → Type 0
AreHex bytes text = All IsByte bytes × (text ≡ hex bytes)

-- the word for bytes: in hex, or `-` for none
abbrev pub AreBytes : List ℕ → Word → Type 0
AreBytes [] word = word ≡ codes "-"
AreBytes (b ∷ bytes) word = AreHex (b ∷ bytes) word

-- ---- what is found

-- something that the text stands for; or nothing, if there is no such thing
abbrev pub Finds : {X T : Type 0} → (X → T → Type 0) → T → Option X → Type 0
Finds {X} Is text found = MatchOption found ((x : X) → ¬ (Is x text)) (λ x. Is x text)

-- the same for a vector, as the list of its elements
abbrev pub FindsAll : {X T : Type 0} → (List X → T → Type 0) → T → Option (Vec X Global) → Type 0
FindsAll {X} Are text found = MatchOption found ((xs : List X) → ¬ (Are xs text)) (λ v. Are v.items text)
