-- What the signature of a message says, as libwayland's tables have it: digits for the version since which the message is there, and a letter
-- for each argument, behind a question mark if it may be null.
use Rattle.std.specs.Prelude.{◌≡◌, ℕ, ◌+◌, ◌*◌, ◌-◌, ◌^◌, List, [], ◌∷◌, length, not, ◌==◌, ◌&&◌, nat_le, nat_lt, if◌then◌else◌, Bool, true, false, Option, None, Some, option_map}
use Rattle.std.specs.List.{position}
use Rattle.std.specs.Option.{option_and_then}
use Rattle.wl_flat.specs.Flat.{count_number, over_front}
use Rattle.wl_flat.specs.declared.rows.ArgumentRow.{ArgumentRow}
use Rattle.wl_flat.specs.declared.rows.MessageRow.{MessageRow}
use Rattle.wl_flat.specs.declared.status.Status.{Status}
use Rattle.wl_flat.specs.declared.status.Status.TheVariants as status

-- `i`, `u`, `f`, `s`, `o`, `n`, `a` and `h`, in the order of their kinds
abbrev pub letters : List ℕ
letters = 105 ∷ 117 ∷ 102 ∷ 115 ∷ 111 ∷ 110 ∷ 97 ∷ 104 ∷ []

-- the kind that a letter stands for
unfoldable pub kind_of : ℕ → Option ℕ
kind_of letter = position (λ l. l == letter) letters

-- the row of an argument of that kind, of any interface
abbrev pub row_of : Bool → ℕ → ArgumentRow
row_of null kind = record { kind = kind; is_nullable = if null then 1 else 0; interface = 0 }

-- the rows of the arguments that these letters say, if that is what they do; `null`: a question mark stands before them
abbrev pub arguments_said : Bool → List ℕ → Option (List ArgumentRow)
arguments_said null [] = if null then None else Some []
arguments_said null (letter ∷ rest) =
    if letter == 63 && not null then arguments_said true rest
    else option_and_then (λ kind. option_map (λ rows. row_of null kind ∷ rows) (arguments_said false rest)) (kind_of letter)

-- a decimal digit
abbrev pub is_digit : ℕ → Bool
is_digit b = nat_le 48 b && nat_le b 57

-- the number that the digits at the front say, behind those of `n`, and the letters after them, if it has 32 bits
abbrev pub number_said : ℕ → List ℕ → Option (ℕ × List ℕ)
number_said n [] = Some (n, [])
number_said n (b ∷ rest) =
    if is_digit b then (if nat_lt (10 * n + (b - 48)) (2 ^ 32) then number_said (10 * n + (b - 48)) rest else None)
    else Some (n, b ∷ rest)

-- the version since which the message is there, and the rows of its arguments; without digits, or with 0, it is version 1
abbrev pub signature_said : List ℕ → Option (ℕ × List ArgumentRow)
signature_said text =
    option_and_then (λ n. option_map (λ rows. (if n.0 == 0 then 1 else n.0, rows)) (arguments_said false n.1)) (number_said 0 text)

-- the row of a message of that version and so many arguments
abbrev pub with_signature : ℕ → ℕ → MessageRow → MessageRow
with_signature since count m = record m { since = since; arguments = count_number count }

-- What reading a signature comes to: the answer, the row of the message, and the memory that was lent for the rows of its arguments. Where it says
-- nothing, all is as before; where the memory is too small, the rows of the arguments are not written.
abbrev pub said_into : Option (ℕ × List ArgumentRow) → MessageRow → List ArgumentRow → Status × MessageRow × List ArgumentRow
said_into None m room = (status.InvalidInput, m, room)
said_into (Some s) m room =
    if nat_le (length s.1) (length room) then (status.Ok, with_signature s.0 (length s.1) m, over_front s.1 room)
    else (status.TooSmall, with_signature s.0 (length s.1) m, room)

abbrev pub signature_read : List ℕ → MessageRow → List ArgumentRow → Status × MessageRow × List ArgumentRow
signature_read text m room = said_into (signature_said text) m room

-- a call that does so
abbrev pub ReadsSignature : List ℕ → MessageRow → List ArgumentRow → Status → MessageRow → List ArgumentRow → Type 0
ReadsSignature text m room answer m' room' = (answer, m', room') ≡ signature_read text m room
