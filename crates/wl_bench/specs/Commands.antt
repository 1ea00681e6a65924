-- The language of lines that drive a server: which lines are commands.
use Rattle.std.specs.Prelude.{◌≡◌, ℕ, ◌<◌, ◌≤◌, ◌==◌, List, [], ◌∷◌, length, map, codes, pos, ⊤, Option, MatchOption, Vec}
use Rattle.std.specs.Fmt.{decimal}
use Rattle.std.specs.List.{All, AllZip, flat_map, slice_split}
use Rattle.std.specs.Str.{IsUtf8}
use Rattle.std.specs.String.{string_bytes}
use Rattle.std.specs.declared.alloc.Global.{Global}
use Rattle.wl_bench.specs.Hex.{hex_digits}
use Rattle.wl_bench.specs.declared.command.ClientCommand.{ClientCommand}
use Rattle.wl_bench.specs.declared.command.ClientCommand.TheVariants.{Arrive, Read, Finish, Kill, Accept, FailIn, FailOut}
use Rattle.wl_bench.specs.declared.command.Command.{Command}
use Rattle.wl_bench.specs.declared.command.Command.TheVariants.{Insert, Client, Dispatch, Create, Disable, Remove, Flush, Cleanup, Notes}
use Rattle.wl_wire.specs.declared.error.IoFault.{IoFault}
use Rattle.wl_wire.specs.declared.error.IoFault.TheVariants.{WouldBlock, Pipe, TooBig, Proto, InvalidInput, OutOfMemory, Other}
use Rattle.wl_wire.specs.declared.argument.Token.{Token}

-- what stands between the bytes of this value
abbrev pub parts : ℕ → List ℕ → List (List ℕ)
parts byte text = slice_split (λ b. b == byte) text

-- the words of a line: what stands between its spaces
abbrev pub words : List ℕ → List (List ℕ)
words line = parts 32 line

-- the word is this number, in decimal digits without leading zeros
abbrev pub IsNumber : ℕ → List ℕ → Type 0
IsNumber n word = (n ≤ 4294967295) × (word ≡ decimal n)

-- the word is these numbers with commas between, so it is one number at least
abbrev pub AreNumbers : List ℕ → List ℕ → Type 0
AreNumbers numbers word = AllZip IsNumber numbers (parts 44 word)

-- a token's number is not negative
abbrev pub token : ℕ → Token
token n = record { 0 = pos n }

-- the number of a token is at most this
abbrev pub IsTokenNumber : ℕ → Type 0
IsTokenNumber n = n ≤ 2147483647

-- the word for tokens: their numbers with commas between, or `-` for none
abbrev pub AreTokens : List Token → List ℕ → Type 0
AreTokens [] word = word ≡ codes "-"
AreTokens (t ∷ tokens) word = (numbers : List ℕ) × AreNumbers numbers word × All IsTokenNumber numbers × (t ∷ tokens ≡ map token numbers)

-- a byte
abbrev pub IsByte : ℕ → Type 0
IsByte b = b < 256

-- the text is these bytes, two digits each in lower-case hex
abbrev pub AreHex : List ℕ → List ℕ → Type 0
AreHex bytes text = All IsByte bytes × (text ≡ flat_map hex_digits bytes)

-- the word for bytes: in hex, or `-` for none
abbrev pub AreBytes : List ℕ → List ℕ → Type 0
AreBytes [] word = word ≡ codes "-"
AreBytes (b ∷ bytes) word = AreHex (b ∷ bytes) word

-- the word names the fault
abbrev pub NamesFault : IoFault → List ℕ → Type 0
NamesFault WouldBlock word = word ≡ codes "WouldBlock"
NamesFault Pipe word = word ≡ codes "Pipe"
NamesFault TooBig word = word ≡ codes "TooBig"
NamesFault Proto word = word ≡ codes "Proto"
NamesFault InvalidInput word = word ≡ codes "InvalidInput"
NamesFault OutOfMemory word = ⊥
NamesFault (Other n) word = (word ≡ codes "Other") × (n ≡ pos 5)

-- the words of a command about the client at the slot
abbrev pub IsClientCommand : ℕ → ClientCommand → List (List ℕ) → Type 0
IsClientCommand slot (Arrive bytes tokens) ws =
    (b t : List ℕ) × (ws ≡ codes "in" ∷ decimal slot ∷ b ∷ t ∷ []) × AreBytes bytes.items b × AreTokens tokens.items t
IsClientCommand slot Read ws = ws ≡ codes "read" ∷ decimal slot ∷ []
IsClientCommand slot Finish ws = ws ≡ codes "finish" ∷ decimal slot ∷ []
IsClientCommand slot Kill ws = ws ≡ codes "kill" ∷ decimal slot ∷ []
IsClientCommand slot (Accept counts) ws =
    (word : List ℕ) × (ws ≡ codes "accept" ∷ decimal slot ∷ word ∷ []) × AreNumbers counts.items word
IsClientCommand slot (FailIn fault) ws =
    (name : List ℕ) × (ws ≡ codes "fail" ∷ decimal slot ∷ codes "in" ∷ name ∷ []) × NamesFault fault name
IsClientCommand slot (FailOut fault) ws =
    (name : List ℕ) × (ws ≡ codes "fail" ∷ decimal slot ∷ codes "out" ∷ name ∷ []) × NamesFault fault name

-- the words of a command
abbrev pub IsCommand : Command → List (List ℕ) → Type 0
IsCommand Insert ws = ws ≡ codes "client" ∷ []
IsCommand (Client slot command) ws = (slot ≤ 4294967295) × IsClientCommand slot command ws
IsCommand (Dispatch slots) ws = (word : List ℕ) × (ws ≡ codes "dispatch" ∷ word ∷ []) × AreNumbers slots.items word
IsCommand (Create name version) ws =
    (version ≤ 4294967295) × (0 < length (string_bytes name)) × (ws ≡ codes "global" ∷ string_bytes name ∷ decimal version ∷ [])
IsCommand (Disable name) ws = (name ≤ 4294967295) × (ws ≡ codes "disable" ∷ decimal name ∷ [])
IsCommand (Remove name) ws = (name ≤ 4294967295) × (ws ≡ codes "remove" ∷ decimal name ∷ [])
IsCommand Flush ws = ws ≡ codes "flush" ∷ []
IsCommand Cleanup ws = ws ≡ codes "cleanup" ∷ []
IsCommand Notes ws = ws ≡ codes "notes" ∷ []

-- the line, which is text, is the command
abbrev pub IsLine : Command → List ℕ → Type 0
IsLine command line = IsUtf8 line × IsCommand command (words line)

-- two commands about a client ask for the same; how their vectors were allocated is no matter
abbrev pub AskSameOfClient : ClientCommand → ClientCommand → Type 0
AskSameOfClient (Arrive bytes tokens) (Arrive bytes' tokens') = (bytes.items ≡ bytes'.items) × (tokens.items ≡ tokens'.items)
AskSameOfClient Read Read = ⊤
AskSameOfClient Finish Finish = ⊤
AskSameOfClient Kill Kill = ⊤
AskSameOfClient (Accept counts) (Accept counts') = counts.items ≡ counts'.items
AskSameOfClient (FailIn fault) (FailIn fault') = fault ≡ fault'
AskSameOfClient (FailOut fault) (FailOut fault') = fault ≡ fault'
AskSameOfClient c d = ⊥

-- two commands ask for the same; here, too, how their vectors were allocated is no matter
abbrev pub AskSame : Command → Command → Type 0
AskSame Insert Insert = ⊤
AskSame (Client slot c) (Client slot' d) = (slot ≡ slot') × AskSameOfClient c d
AskSame (Dispatch slots) (Dispatch slots') = slots.items ≡ slots'.items
AskSame (Create name version) (Create name' version') = (string_bytes name ≡ string_bytes name') × (version ≡ version')
AskSame (Disable name) (Disable name') = name ≡ name'
AskSame (Remove name) (Remove name') = name ≡ name'
AskSame Flush Flush = ⊤
AskSame Cleanup Cleanup = ⊤
AskSame Notes Notes = ⊤
AskSame c d = ⊥

-- something that the text stands for; or nothing, if there is no such thing
abbrev pub Finds : {X T : Type 0} → (X → T → Type 0) → T → Option X → Type 0
Finds {X} Is text found = MatchOption found ((x : X) → ¬ (Is x text)) (λ x. Is x text)

-- the same for a vector, as the list of its elements
abbrev pub FindsAll : {X T : Type 0} → (List X → T → Type 0) → T → Option (Vec X Global) → Type 0
FindsAll {X} Are text found = MatchOption found ((xs : List X) → ¬ (Are xs text)) (λ v. Are v.items text)
