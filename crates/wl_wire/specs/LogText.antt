-- The text of a message in a log, as libwayland before version 1.23 writes it if `WAYLAND_DEBUG` is set, but for strings, whose bytes
-- may be written in hex.
--
-- `interface@number.message(argument, argument)`, as in `wl_surface@3.attach(wl_buffer@5, 0, 0)`.
use Rattle.std.specs.Prelude.{ℕ, ℤ, pos, negsuc, ◌/◌, ◌%◌, ◌*◌, ◌+◌, List, [], ◌∷◌, ◌++◌, length, nat_lt, false, ◌==◌, Option, None, Some, codes, if◌then◌else◌, unsigned_abs}
use Rattle.std.specs.Fmt.{decimal, signed_decimal, digit_glyph}
use Rattle.std.specs.List.{flat_map}
use Rattle.std.specs.Option.{option_map_or}
use Rattle.wl_wire.specs.declared.interface.InterfaceId.{InterfaceId}
use Rattle.wl_wire.specs.declared.argument.Argument.TheVariants as arg
use Rattle.wl_wire.specs.Argument.{WireArgument}
use Rattle.wl_wire.specs.Message.{WireMessage}
use Rattle.wl_wire.specs.Table.{InterfaceRow, MessageRow, name_of}

-- ---- strings

-- a byte's two digits in hex, after \x
abbrev pub escaped : ℕ → List ℕ
escaped byte = codes "\\x" ++ digit_glyph false (byte / 16) ∷ digit_glyph false (byte % 16) ∷ []

-- a byte of a string: itself if it is a printing ASCII character
abbrev pub glyph : ℕ → List ℕ
glyph byte = if nat_lt byte 32 then escaped byte else (if nat_lt 126 byte then escaped byte else byte ∷ [])

abbrev pub string_text : Option (List ℕ) → List ℕ
string_text None = codes "nil"
string_text (Some bytes) = codes "\"" ++ flat_map glyph bytes ++ codes "\""

-- ---- fixed-point numbers

-- the digit of the number at this unit, as 10 for the tens
abbrev pub digit_at : ℕ → ℕ → List ℕ
digit_at n unit = (48 + n / unit % 10) ∷ []

-- the units of eight digits
abbrev pub eight_units : List ℕ
eight_units = 10000000 ∷ 1000000 ∷ 100000 ∷ 10000 ∷ 1000 ∷ 100 ∷ 10 ∷ 1 ∷ []

-- its 256ths, as eight digits behind the point, which tell them exactly: 1 / 256 is 0.00390625
abbrev pub fraction_text : ℕ → List ℕ
fraction_text size = flat_map (digit_at (size % 256 * 390625)) eight_units

abbrev pub sign_text : ℤ → List ℕ
sign_text (pos _) = []
sign_text (negsuc _) = codes "-"

-- what stands before these digits
abbrev pub whole_text : ℤ → List ℕ
whole_text value = sign_text value ++ decimal (unsigned_abs value / 256) ++ codes "."

-- a fixed-point number, given as its value times 256
abbrev pub fixed_text : ℤ → List ℕ
fixed_text value = whole_text value ++ fraction_text (unsigned_abs value)

-- ---- objects

-- an object with its interface
abbrev pub named : List InterfaceRow → InterfaceId → ℕ → List ℕ
named table interface number = name_of table interface.0 ++ codes "@" ++ decimal number

-- an object of which no interface is known
abbrev pub unknown : ℕ → List ℕ
unknown number = codes "[unknown]@" ++ decimal number

-- `interface` is the one that is known of the object; 0 is null
abbrev pub object_text : List InterfaceRow → Option InterfaceId → ℕ → List ℕ
object_text table interface number =
    if number == 0 then codes "nil" else option_map_or (λ i. named table i number) interface (unknown number)

-- a new object of an interface with this name; 0 is no number of one
abbrev pub new_named : List ℕ → ℕ → List ℕ
new_named name number = codes "new id " ++ name ++ codes "@" ++ (if number == 0 then codes "nil" else decimal number)

-- the new object of a bind is of the interface that its other arguments name
abbrev pub new_text : List InterfaceRow → Option InterfaceId → ℕ → List ℕ
new_text table child number = new_named (option_map_or (λ i. name_of table i.0) child (codes "[unknown]")) number

-- ---- messages

-- `interface_of` tells the interface of an object, `child` that of the new one
abbrev pub argument_text : List InterfaceRow → (interface_of : ℕ → Option InterfaceId) → (child : Option InterfaceId) → WireArgument → List ℕ
argument_text table interface_of child (arg.Int n) = signed_decimal n
argument_text table interface_of child (arg.Uint n) = decimal n
argument_text table interface_of child (arg.Fixed n) = fixed_text n
argument_text table interface_of child (arg.Str text) = string_text text
argument_text table interface_of child (arg.Object n) = object_text table (interface_of n) n
argument_text table interface_of child (arg.NewId n) = new_text table child n
argument_text table interface_of child (arg.Array bytes) = codes "array[" ++ decimal (length bytes) ++ codes "]"
argument_text table interface_of child (arg.Fd t) = codes "fd " ++ signed_decimal t.0

-- an argument that is not the first one
abbrev pub further_text : List InterfaceRow → (ℕ → Option InterfaceId) → Option InterfaceId → WireArgument → List ℕ
further_text table interface_of child a = codes ", " ++ argument_text table interface_of child a

abbrev pub arguments_text : List InterfaceRow → (ℕ → Option InterfaceId) → Option InterfaceId → List WireArgument → List ℕ
arguments_text table interface_of child [] = []
arguments_text table interface_of child (a ∷ others) =
    argument_text table interface_of child a ++ flat_map (further_text table interface_of child) others

-- a message of an object of this interface, with its row of the table
abbrev pub message_text : List InterfaceRow → (ℕ → Option InterfaceId) → InterfaceId → MessageRow → WireMessage → List ℕ
message_text table interface_of interface row m =
    named table interface m.sender
    ++ codes "." ++ row.name ++ codes "("
    ++ arguments_text table interface_of row.child_interface m.args
    ++ codes ")"
