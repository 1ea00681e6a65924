-- Worked messages, computed from the definitions: they say what was meant.
use Rattle.std.proofs.Common.{◌≡◌, ℕ, List, [], ◌∷◌, Some, None, refl, inl, inr, lit<, lit≤}
use Rattle.std.specs.Prelude.{codes, negsuc, pos}
use Rattle.wl_wire.specs.declared.argument.AllowNull.TheVariants.{No}
use Rattle.wl_wire.specs.declared.argument.ArgumentType.{ArgumentType}
use Rattle.wl_wire.specs.declared.argument.ArgumentType.TheVariants as kind
use Rattle.wl_wire.specs.declared.argument.Argument.TheVariants as arg
use Rattle.wl_wire.specs.declared.error.MessageParseError.TheVariants as errors
use Rattle.wl_wire.specs.Argument.{WireArgument}
use Rattle.wl_wire.specs.Message.{WireMessage, word, pad_len, counted, piece, pieces, tokens, size, spelling}
use Rattle.wl_wire.specs.Reading.{Reads}
use Rattle.wl_wire.specs.Parse.{sender_of, second_word, DoesNotRead, ReadsMessage, RefusesMessage}
use Rattle.wl_wire.specs.Inside.Cursor.{arguments_at}
use Rattle.wl_wire.specs.Pieces.{word_at, counted_at, text_of, argument_at}
use Rattle.wl_wire.proofs.Spelling.CursorLaws.{arguments_read, none_reads}

abbrev message : ℕ → ℕ → List WireArgument → WireMessage
message sender opcode args = record { sender = sender; opcode = opcode; args = args }

abbrev text_kind : ArgumentType
text_kind = kind.Str No

-- ---- what is written

-- the first sync of a client: the new object is 2
first_sync : spelling (message 1 0 (arg.NewId 2 ∷ [])) ≡ 1 ∷ 0 ∷ 0 ∷ 0 ∷ 0 ∷ 0 ∷ 0x0c ∷ 0 ∷ 2 ∷ 0 ∷ 0 ∷ 0 ∷ []
unfolding word piece
first_sync = refl

-- a bind of `wl_shell`: the name with its zero has nine bytes, and three of padding
shell_bind : spelling (message 2 0 (arg.Uint 18 ∷ arg.Str (Some (codes "wl_shell")) ∷ arg.Uint 1 ∷ []))
    ≡ 2 ∷ 0 ∷ 0 ∷ 0 ∷ 0 ∷ 0 ∷ 32 ∷ 0 ∷ 18 ∷ 0 ∷ 0 ∷ 0 ∷ 9 ∷ 0 ∷ 0 ∷ 0
    ∷ 119 ∷ 108 ∷ 95 ∷ 115 ∷ 104 ∷ 101 ∷ 108 ∷ 108 ∷ 0 ∷ 0 ∷ 0 ∷ 0 ∷ 1 ∷ 0 ∷ 0 ∷ 0 ∷ []
unfolding word piece
shell_bind = refl

-- one argument of each kind but a descriptor
abbrev train : WireMessage
train = message 42 7 (arg.Uint 3 ∷ arg.Fixed (negsuc 88) ∷ arg.Str (Some (codes "I like trains!")) ∷ arg.Array (1 ∷ 2 ∷ 3 ∷ 4 ∷ 5 ∷ 6 ∷ 7 ∷ 8 ∷ 9 ∷ []) ∷ arg.Object 88 ∷ arg.NewId 56 ∷ arg.Int (negsuc 24) ∷ [])

train_size : size train ≡ 64
unfolding word piece
train_size = refl

-- a signed number is written by its two's complement
minus_one : piece (arg.Int (negsuc 0)) ≡ 255 ∷ 255 ∷ 255 ∷ 255 ∷ []
unfolding word piece
minus_one = refl

-- a null string is one word, an empty one has its zero
null_text : piece (arg.Str None) ≡ 0 ∷ 0 ∷ 0 ∷ 0 ∷ []
unfolding word piece
null_text = refl

empty_text : piece (arg.Str (Some [])) ≡ 1 ∷ 0 ∷ 0 ∷ 0 ∷ 0 ∷ 0 ∷ 0 ∷ 0 ∷ []
unfolding word piece
empty_text = refl

-- descriptors take no bytes, and their tokens stand in order
two_descriptors : (pieces (arg.Fd (record { 0 = pos 1 }) ∷ arg.Fd (record { 0 = pos 0 }) ∷ []) ≡ [])
    × (tokens (arg.Fd (record { 0 = pos 1 }) ∷ arg.Fd (record { 0 = pos 0 }) ∷ []) ≡ record { 0 = pos 1 } ∷ record { 0 = pos 0 } ∷ [])
unfolding piece
two_descriptors = (refl, refl)

-- padding of every length
paddings : (pad_len 0 ≡ 0) × (pad_len 1 ≡ 3) × (pad_len 2 ≡ 2) × (pad_len 3 ≡ 1) × (pad_len 4 ≡ 0) × (pad_len 5 ≡ 3)
paddings = (refl, refl, refl, refl, refl, refl)

padded : (counted (7 ∷ []) ≡ 1 ∷ 0 ∷ 0 ∷ 0 ∷ 7 ∷ 0 ∷ 0 ∷ 0 ∷ []) × (counted (7 ∷ 8 ∷ 9 ∷ []) ≡ 3 ∷ 0 ∷ 0 ∷ 0 ∷ 7 ∷ 8 ∷ 9 ∷ 0 ∷ [])
    × (counted (6 ∷ 7 ∷ 8 ∷ 9 ∷ []) ≡ 4 ∷ 0 ∷ 0 ∷ 0 ∷ 6 ∷ 7 ∷ 8 ∷ 9 ∷ []) × (counted [] ≡ 0 ∷ 0 ∷ 0 ∷ 0 ∷ [])
unfolding word
padded = (refl, refl, refl, refl)

-- ---- what is read

-- a message of no arguments whose length is no multiple of four
odd_length : ReadsMessage (0x2a ∷ 0 ∷ 0 ∷ 0 ∷ 0 ∷ 0 ∷ 0x0b ∷ 0 ∷ 1 ∷ 2 ∷ 3 ∷ []) [] [] (message 42 0 [])
unfolding sender_of second_word Reads
odd_length = record { whole = record { header = lit≤ tt; counts_header = lit≤ tt; there = lit≤ tt }; sender = refl; opcode = refl; args = tt }

-- without its last byte it lacks data
odd_length_short : RefusesMessage (0x2a ∷ 0 ∷ 0 ∷ 0 ∷ 0 ∷ 0 ∷ 0x0b ∷ 0 ∷ 1 ∷ 2 ∷ []) [] [] errors.MissingData
unfolding second_word
odd_length_short = inr (lit≤ tt, lit≤ tt, lit< tt)

-- a length that does not count the header
length_of_seven : RefusesMessage (0x2a ∷ 0 ∷ 0 ∷ 0 ∷ 0 ∷ 0 ∷ 7 ∷ 0 ∷ []) [] [] errors.Malformed
unfolding second_word
length_of_seven = inl (lit≤ tt, lit< tt)

-- padding may hold anything, and the rest is ignored
any_padding : Reads (text_kind ∷ []) (arg.Str (Some (7 ∷ [])) ∷ []) (2 ∷ 0 ∷ 0 ∷ 0 ∷ 7 ∷ 0 ∷ 99 ∷ 98 ∷ 1 ∷ 1 ∷ []) []
unfolding word_at counted_at text_of argument_at arguments_at
any_padding = (arguments_read (text_kind ∷ []) (2 ∷ 0 ∷ 0 ∷ 0 ∷ 7 ∷ 0 ∷ 99 ∷ 98 ∷ 1 ∷ 1 ∷ []) [] (arg.Str (Some (7 ∷ [])) ∷ []) [] refl).0

-- a string of no bytes is null, also where the signature forbids it
null_read : Reads (text_kind ∷ []) (arg.Str None ∷ []) (0 ∷ 0 ∷ 0 ∷ 0 ∷ []) []
unfolding word_at counted_at text_of argument_at arguments_at
null_read = (arguments_read (text_kind ∷ []) (0 ∷ 0 ∷ 0 ∷ 0 ∷ []) [] (arg.Str None ∷ []) [] refl).0

-- a string without its zero, and one with a zero inside
no_final_zero : DoesNotRead (text_kind ∷ []) (4 ∷ 0 ∷ 0 ∷ 0 ∷ 97 ∷ 98 ∷ 99 ∷ 100 ∷ []) []
unfolding word_at counted_at text_of argument_at arguments_at
no_final_zero = none_reads (text_kind ∷ []) (4 ∷ 0 ∷ 0 ∷ 0 ∷ 97 ∷ 98 ∷ 99 ∷ 100 ∷ []) [] refl

inner_zero : DoesNotRead (text_kind ∷ []) (4 ∷ 0 ∷ 0 ∷ 0 ∷ 97 ∷ 0 ∷ 99 ∷ 0 ∷ []) []
unfolding word_at counted_at text_of argument_at arguments_at
inner_zero = none_reads (text_kind ∷ []) (4 ∷ 0 ∷ 0 ∷ 0 ∷ 97 ∷ 0 ∷ 99 ∷ 0 ∷ []) [] refl

-- an array that overruns the message, by its bytes or by its padding alone
overrunning_array : DoesNotRead (kind.Array ∷ []) (5 ∷ 0 ∷ 0 ∷ 0 ∷ 1 ∷ 2 ∷ 3 ∷ 4 ∷ []) []
unfolding word_at counted_at argument_at arguments_at
overrunning_array = none_reads (kind.Array ∷ []) (5 ∷ 0 ∷ 0 ∷ 0 ∷ 1 ∷ 2 ∷ 3 ∷ 4 ∷ []) [] refl

overrunning_padding : DoesNotRead (kind.Array ∷ []) (2 ∷ 0 ∷ 0 ∷ 0 ∷ 1 ∷ 2 ∷ []) []
unfolding word_at counted_at argument_at arguments_at
overrunning_padding = none_reads (kind.Array ∷ []) (2 ∷ 0 ∷ 0 ∷ 0 ∷ 1 ∷ 2 ∷ []) [] refl
