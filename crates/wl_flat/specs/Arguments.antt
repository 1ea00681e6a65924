-- The arguments of a message as flat structs, and the arguments that flat structs stand for.
use Rattle.std.specs.Prelude.{◌≡◌, ◌<◌, ◌^◌, ℕ, ◌+◌, ◌-◌, ◌%◌, ◌==◌, ℤ, pos, negsuc, List, [], ◌∷◌, ◌++◌, ◌⊎◌, length, take, drop, replicate, nat_le, nat_eq, Bool, false, if◌then◌else◌, Option, None, Some, slice_get, unwrap_or, option_to_list, true}
use Rattle.std.specs.Int.{w32, cast_signed, cast_unsigned}
use Rattle.std.specs.List.{list_any}
use Rattle.wl_wire.specs.declared.argument.Argument.{Argument}
use Rattle.wl_wire.specs.declared.argument.Argument.TheVariants as arg
use Rattle.wl_wire.specs.declared.argument.Token.{Token}
use Rattle.wl_flat.specs.Descriptors.{Descriptors, descriptor_of, put_in, token_after, without}
use Rattle.wl_flat.specs.Flat.{count_number, flat_bytes, flat_number, flat_object}
use Rattle.wl_flat.specs.Kinds as kinds
use Rattle.wl_flat.specs.declared.flat.FlatArgument.{FlatArgument}
use Rattle.wl_flat.specs.declared.flat.FlatObjectId.{FlatObjectId}
use Rattle.wl_flat.specs.declared.status.Status.{Status}
use Rattle.wl_flat.specs.declared.status.Status.TheVariants as status

-- ---- out

-- how many zeros follow a string of n bytes: up to the next multiple of eight, and one at least
abbrev pub zeros_behind_string : ℕ → ℕ
zeros_behind_string n = 8 - n % 8

-- how many follow an array of n bytes
abbrev pub zeros_behind_array : ℕ → ℕ
zeros_behind_array n = (8 - n % 8) % 8

module _ {Id : Type 0} where
  -- The bytes that are lent for a string or an array. With the zeros behind them they are a multiple of eight, so each begins at
  -- one.
  abbrev pub bytes_of : Argument Id Token → List ℕ
  bytes_of (arg.Str (Some text)) = text ++ replicate (zeros_behind_string (length text)) 0
  bytes_of (arg.Array bytes) = bytes ++ replicate (zeros_behind_array (length bytes)) 0
  bytes_of _ = []

  -- the bytes of all of them, behind each other
  abbrev pub all_bytes : List (Argument Id Token) → List ℕ
  all_bytes [] = []
  all_bytes (a ∷ args) = bytes_of a ++ all_bytes args

  -- the descriptor of the argument, if it is one that is held
  abbrev pub descriptor_in : Descriptors → Argument Id Token → Option ℤ
  descriptor_in q (arg.Fd t) = descriptor_of q t
  descriptor_in q _ = None

  -- it is a descriptor
  abbrev pub is_descriptor : Argument Id Token → Bool
  is_descriptor (arg.Fd t) = true
  is_descriptor _ = false

  -- what is held after the argument was handed out
  abbrev pub queue_after : Descriptors → Argument Id Token → Descriptors
  queue_after q (arg.Fd t) = without q t
  queue_after q _ = q

  -- what is held after all of them were handed out, in order
  abbrev pub queue_after_all : Descriptors → List (Argument Id Token) → Descriptors
  queue_after_all q [] = q
  queue_after_all q (a ∷ args) = queue_after_all (queue_after q a) args

  -- the descriptors that come out with them
  abbrev pub descriptors_out : Descriptors → List (Argument Id Token) → List ℤ
  descriptors_out q [] = []
  descriptors_out q (a ∷ args) = option_to_list (descriptor_in q a) ++ descriptors_out (queue_after q a) args

-- lent bytes after this part was written at that place
abbrev pub written_at : ℕ → List ℕ → List ℕ → List ℕ
written_at at part memory = take at memory ++ part ++ drop (at + length part) memory

-- `flat` gives an id as a flat struct, and `user_data` the program's data of the object, or 0
module _ {Id : Type 0} (flat : Id → FlatObjectId) (user_data : Id → ℕ) where
  -- An argument whose bytes, if it has some, stand at that place. A token that names no descriptor is told as -1.
  abbrev pub flat_argument : Descriptors → ℕ → Argument Id Token → FlatArgument
  flat_argument q at (arg.Int value) = flat_number kinds.int value
  flat_argument q at (arg.Uint value) = flat_number kinds.uint (cast_signed w32 value)
  flat_argument q at (arg.Fixed value) = flat_number kinds.fixed value
  flat_argument q at (arg.Str None) = flat_number kinds.null_string (pos 0)
  flat_argument q at (arg.Str (Some text)) = flat_bytes kinds.string (count_number at) (count_number (length text))
  flat_argument q at (arg.Object id) = flat_object kinds.object (flat id) (user_data id)
  flat_argument q at (arg.NewId id) = flat_object kinds.new_id (flat id) (user_data id)
  flat_argument q at (arg.Array bytes) = flat_bytes kinds.array (count_number at) (count_number (length bytes))
  flat_argument q at (arg.Fd t) = flat_number kinds.descriptor (unwrap_or (descriptor_of q t) (negsuc 0))

  -- arguments whose bytes stand behind each other, from that place on
  abbrev pub flat_arguments : Descriptors → ℕ → List (Argument Id Token) → List FlatArgument
  flat_arguments q at [] = []
  flat_arguments q at (a ∷ args) = flat_argument q at a ∷ flat_arguments (queue_after q a) (at + length (bytes_of a)) args

-- What C reads where it is: a zero follows a string, and both begin at a multiple of eight of the bytes.
pub record IsReadInPlace (bytes : List ℕ) (a : FlatArgument) : Type 0 where
  pub string : a.kind ≡ kinds.string → (a.at % 8 ≡ 0) × (slice_get bytes (a.at + a.length) ≡ Some 0)
  pub array : a.kind ≡ kinds.array → a.at % 8 ≡ 0

-- ---- in

-- the descriptor that goes in with the flat struct, if it is one
abbrev pub descriptor_given : FlatArgument → List ℤ
descriptor_given a = if a.kind == kinds.descriptor then a.value ∷ [] else []

-- the descriptors that go in with all of them
abbrev pub descriptors_given : List FlatArgument → List ℤ
descriptors_given [] = []
descriptors_given (a ∷ args) = descriptor_given a ++ descriptors_given args

-- the bytes that the flat struct names, if they are all there
abbrev pub part_of : List ℕ → FlatArgument → Option (List ℕ)
part_of bytes a = if nat_le (a.at + a.length) (length bytes) then Some (take a.length (drop a.at bytes)) else None

-- whether a byte is zero
abbrev pub has_zero : List ℕ → Bool
has_zero bytes = list_any (nat_eq 0) bytes

-- what was not read, and why: the flat structs cannot be read, or there was no memory
abbrev pub IsUnread : {A : Type 0} → Status → Option A → Type 0
IsUnread s read = ((s ≡ status.InvalidInput) × (read ≡ None)) ⊎ (s ≡ status.OutOfMemory)

module _ {Id : Type 0} where
  -- no byte of a string is zero
  abbrev pub string_in : Option (List ℕ) → Option (Argument Id Token)
  string_in None = None
  string_in (Some text) = if has_zero text then None else Some (arg.Str (Some text))

  abbrev pub array_in : Option (List ℕ) → Option (Argument Id Token)
  array_in None = None
  array_in (Some array) = Some (arg.Array array)

  abbrev pub before_others : Option (Argument Id Token) → Option (List (Argument Id Token)) → Option (List (Argument Id Token))
  before_others None others = None
  before_others (Some a) None = None
  before_others (Some a) (Some others) = Some (a ∷ others)

-- `stands_for` gives the id that a flat struct stands for, and the bytes are those that are passed beside the flat structs
module _ {Id : Type 0} (stands_for : FlatObjectId → Id) (bytes : List ℕ) where
  -- The argument that the flat struct stands for, if it can be read. A descriptor gets the token.
  abbrev pub argument_of : Token → FlatArgument → Option (Argument Id Token)
  argument_of t a =
      (if a.kind == kinds.int then Some (arg.Int a.value) else
      (if a.kind == kinds.uint then Some (arg.Uint (cast_unsigned w32 a.value)) else
      (if a.kind == kinds.fixed then Some (arg.Fixed a.value) else
      (if a.kind == kinds.string then string_in (part_of bytes a) else
      (if a.kind == kinds.object then Some (arg.Object (stands_for a.object)) else
      (if a.kind == kinds.new_id then Some (arg.NewId (stands_for a.object)) else
      (if a.kind == kinds.array then array_in (part_of bytes a) else
      (if a.kind == kinds.descriptor then Some (arg.Fd t) else
      (if a.kind == kinds.null_string then Some (arg.Str None) else
      None)))))))))

  -- The arguments that the flat structs stand for, if all can be read. Their descriptors are put in, in order, and get the
  -- next tokens.
  abbrev pub arguments_of : Descriptors → List FlatArgument → Option (List (Argument Id Token))
  arguments_of q [] = Some []
  arguments_of q (a ∷ args) =
      before_others (argument_of (token_after q (length q.held)) a) (arguments_of (put_in q (descriptor_given a)) args)

-- ---- out and in again

module _ {Id : Type 0} where
  -- a descriptor with this token
  abbrev pub with_token : Token → Argument Id Token → Argument Id Token
  with_token t (arg.Fd own) = arg.Fd t
  with_token t a = a

  -- the number that is told of a descriptor
  abbrev pub told : Descriptors → Argument Id Token → List ℤ
  told q (arg.Fd t) = unwrap_or (descriptor_of q t) (negsuc 0) ∷ []
  told q a = []

  -- The same arguments, whose descriptors came out of the first queue and went into the second one.
  abbrev pub moved : Descriptors → Descriptors → List (Argument Id Token) → List (Argument Id Token)
  moved q r [] = []
  moved q r (a ∷ args) = with_token (token_after r (length r.held)) a ∷ moved (queue_after q a) (put_in r (told q a)) args

-- the argument is one that comes back: its number has 32 bits, its string no zero, and its id is the one that its flat form
-- stands for
abbrev pub ComesBack : {Id : Type 0} → (Id → FlatObjectId) → (FlatObjectId → Id) → Argument Id Token → Type 0
ComesBack flat stands_for (arg.Uint value) = value < 2 ^ 32
ComesBack flat stands_for (arg.Str (Some text)) = has_zero text ≡ false
ComesBack flat stands_for (arg.Object id) = stands_for (flat id) ≡ id
ComesBack flat stands_for (arg.NewId id) = stands_for (flat id) ≡ id
ComesBack flat stands_for _ = Unit {0}
