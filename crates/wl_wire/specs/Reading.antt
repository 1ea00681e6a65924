-- The arguments that bytes and tokens are, under a signature.
--
-- The payload is a piece for each argument that is no descriptor, and a rest, which is ignored. Padding is not looked
-- at. A string's bytes end in a zero and have no other; a string of no bytes at all is null, even if the signature does
-- not allow null. The tokens are those of the descriptors, in order, and a rest.
use Rattle.std.specs.Prelude.{◌≡◌, ℕ, List, [], ◌∷◌, ◌++◌, length, Some, None}
use Rattle.std.specs.Int.{w32, from_le_bytes, cast_signed}
use Rattle.wl_wire.specs.declared.argument.ArgumentType.{ArgumentType}
use Rattle.wl_wire.specs.declared.argument.ArgumentType.TheVariants as kind
use Rattle.wl_wire.specs.declared.argument.Argument.TheVariants as arg
use Rattle.wl_wire.specs.declared.argument.Token.{Token}
use Rattle.wl_wire.specs.Argument.{WireArgument}
use Rattle.wl_wire.specs.Message.{pad_len, token}
use Rattle.wl_wire.specs.Text.{HasNoZero}

-- the bytes are a word of this value
pub record IsWord (n : ℕ) (bytes : List ℕ) : Type 0 where
  pub four : length bytes ≡ 4
  pub value : n ≡ from_le_bytes w32 bytes

-- the bytes are a count, that many bytes, and padding
pub record IsCounted (content bytes : List ℕ) : Type 0 where
  pub count : List ℕ
  pub padding : List ℕ
  pub is_word : IsWord (length content) count
  pub pad : length padding ≡ pad_len (length content)
  pub whole : bytes ≡ count ++ (content ++ padding)

-- the bytes are a piece of this type, which stands for the argument
unfoldable pub IsPiece : ArgumentType → WireArgument → List ℕ → Type 0
IsPiece kind.Int (arg.Int z) bytes = (n : ℕ) × IsWord n bytes × (z ≡ cast_signed w32 n)
IsPiece kind.Uint (arg.Uint n) bytes = IsWord n bytes
IsPiece kind.Fixed (arg.Fixed z) bytes = (n : ℕ) × IsWord n bytes × (z ≡ cast_signed w32 n)
IsPiece (kind.Str _) (arg.Str None) bytes = IsCounted [] bytes
IsPiece (kind.Str _) (arg.Str (Some text)) bytes = HasNoZero text × IsCounted (text ++ 0 ∷ []) bytes
IsPiece (kind.Object _) (arg.Object n) bytes = IsWord n bytes
IsPiece kind.NewId (arg.NewId n) bytes = IsWord n bytes
IsPiece kind.Array (arg.Array content) bytes = IsCounted content bytes
IsPiece kind.Fd (arg.Fd _) bytes = bytes ≡ []
IsPiece _ _ bytes = ⊥

-- the payload and the tokens are these arguments, each with a rest
unfoldable pub Reads : List ArgumentType → List WireArgument → List ℕ → List Token → Type 0
Reads [] [] payload fds = Unit {0}
Reads (k ∷ signature) (a ∷ args) payload fds =
    (piece : List ℕ) × (rest : List ℕ) × (others : List Token)
    × (payload ≡ piece ++ rest) × (fds ≡ token a ++ others) × IsPiece k a piece × Reads signature args rest others
Reads _ _ payload fds = ⊥
