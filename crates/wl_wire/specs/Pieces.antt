-- What stands at the front of bytes that are read from left to right: a word, counted bytes, a string, the argument of a type.
use Rattle.std.specs.Prelude.{◌≡◌, ℕ, ◌+◌, ◌-◌, List, [], ◌∷◌, length, take, drop, Option, Some, None, Result, Ok, Err, Bool, nat_lt, ◌==◌, ◌||◌, not, if◌then◌else◌, slice_index}
use Rattle.std.specs.List.{list_any}
use Rattle.std.specs.Int.{w32, from_le_bytes, cast_signed}
use Rattle.wl_wire.specs.declared.argument.Argument.TheVariants as arg
use Rattle.wl_wire.specs.declared.argument.ArgumentType.{ArgumentType}
use Rattle.wl_wire.specs.declared.argument.ArgumentType.TheVariants as kind
use Rattle.wl_wire.specs.declared.argument.Token.{Token}
use Rattle.wl_wire.specs.declared.error.MessageParseError.{MessageParseError}
use Rattle.wl_wire.specs.declared.error.MessageParseError.TheVariants as errors
use Rattle.wl_wire.specs.Argument.{WireArgument}
use Rattle.wl_wire.specs.Message.{pad_len}

infixl 10 ◌>>=◌
abbrev pub ◌>>=◌ : {A B : Type 0} → Option A → (A → Option B) → Option B
(Some x) >>= f = f x
None >>= f = None

-- a word and what follows it
unfoldable pub word_at : List ℕ → Option (ℕ × List ℕ)
word_at bytes = if nat_lt (length bytes) 4 then None else Some (from_le_bytes w32 (take 4 bytes), drop 4 bytes)

-- counted bytes and what follows their padding
unfoldable pub counted_at : List ℕ → Option (List ℕ × List ℕ)
counted_at bytes = do
  n ← word_at bytes
  if nat_lt (length n.1) (n.0 + pad_len n.0) then None else Some (take n.0 n.1, drop (n.0 + pad_len n.0) n.1)

-- all but the last
abbrev pub front : List ℕ → List ℕ
front bytes = take (length bytes - 1) bytes

-- the last is no zero, or another one is
abbrev pub is_no_text : List ℕ → Bool
is_no_text bytes = not (slice_index bytes (length bytes - 1) == 0) || list_any (λ b. b == 0) (front bytes)

-- the string that the counted bytes are, or null
unfoldable pub text_of : List ℕ → Option (Option (List ℕ))
text_of bytes = if length bytes == 0 then Some None else if is_no_text bytes then None else Some (Some (front bytes))

-- the string at the front, or null, and what follows it
abbrev pub text_at : List ℕ → Option (Option (List ℕ) × List ℕ)
text_at payload = do
  bytes ← counted_at payload
  text ← text_of bytes.0
  Some (text, bytes.1)

-- the argument of this type, and what is left of the bytes and of the tokens
unfoldable pub argument_at : ArgumentType → List ℕ → List Token → Option (WireArgument × List ℕ × List Token)
argument_at kind.Int payload fds = do
  n ← word_at payload
  Some (arg.Int (cast_signed w32 n.0), n.1, fds)
argument_at kind.Uint payload fds = do
  n ← word_at payload
  Some (arg.Uint n.0, n.1, fds)
argument_at kind.Fixed payload fds = do
  n ← word_at payload
  Some (arg.Fixed (cast_signed w32 n.0), n.1, fds)
argument_at (kind.Str _) payload fds = do
  bytes ← counted_at payload
  text ← text_of bytes.0
  Some (arg.Str text, bytes.1, fds)
argument_at (kind.Object _) payload fds = do
  n ← word_at payload
  Some (arg.Object n.0, n.1, fds)
argument_at kind.NewId payload fds = do
  n ← word_at payload
  Some (arg.NewId n.0, n.1, fds)
argument_at kind.Array payload fds = do
  bytes ← counted_at payload
  Some (arg.Array bytes.0, bytes.1, fds)
argument_at kind.Fd payload [] = None
argument_at kind.Fd payload (t ∷ fds) = Some (arg.Fd t, payload, fds)

-- an error comes if memory was refused, or if nothing is read
abbrev pub Fails : {Y : Type 0} → MessageParseError → Option Y → Type 0
Fails errors.Malformed read = read ≡ None
Fails errors.OutOfMemory read = Unit {0}
Fails _ read = ⊥

-- a function gives what is read, seen by the view, unless memory was refused
abbrev pub ReadsAs : {X Y : Type 0} → (X → Y) → Result X MessageParseError → Option Y → Type 0
ReadsAs view (Ok x) read = read ≡ Some (view x)
ReadsAs view (Err e) read = Fails e read
