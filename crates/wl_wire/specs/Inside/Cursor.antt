-- Reading arguments from left to right: what the functions inside the parser compute. `CursorLaws` joins it to `Reading`.
use Rattle.std.specs.Prelude.{ℕ, ◌<◌, ◌≤◌, ◌⊎◌, List, [], ◌∷◌, ◌++◌, length, Option, Some}
use Rattle.wl_wire.specs.declared.argument.ArgumentType.{ArgumentType}
use Rattle.wl_wire.specs.declared.argument.ArgumentType.TheVariants as kind
use Rattle.wl_wire.specs.declared.argument.Token.{Token}
use Rattle.wl_wire.specs.declared.error.MessageParseError.{MessageParseError}
use Rattle.wl_wire.specs.declared.error.MessageParseError.TheVariants as errors
use Rattle.wl_wire.specs.Argument.{WireArgument}
use Rattle.wl_wire.specs.Reading.{Reads}
use Rattle.wl_wire.specs.Parse.{length_of, fd_count, DoesNotRead}
use Rattle.wl_wire.specs.Pieces.{◌>>=◌, argument_at}

-- an argument of that type is one word
abbrev pub IsNumber : ArgumentType → Type 0
IsNumber (kind.Str _) = ⊥
IsNumber kind.Array = ⊥
IsNumber kind.Fd = ⊥
IsNumber _ = Unit {0}

-- what is left of the bytes and of the tokens
abbrev pub rests : WireArgument × List ℕ × List Token → List ℕ × List Token
rests x = (x.1, x.2)

-- the arguments, and what is left of the tokens
unfoldable pub arguments_at : List ArgumentType → List ℕ → List Token → Option (List WireArgument × List Token)
arguments_at [] payload fds = Some ([], fds)
arguments_at (k ∷ signature) payload fds = do
  first ← argument_at k payload fds
  others ← arguments_at signature first.1 first.2
  Some (first.0 ∷ others.0, others.1)

-- what was read before, and what is read from here on
abbrev pub with_front : List WireArgument → Option (List WireArgument × List Token) → Option (List WireArgument × List Token)
with_front before read = read >>= λ x. Some (before ++ x.0, x.1)

-- what was read before, and the argument that is read next
abbrev pub with_one : List WireArgument → Option (WireArgument × List ℕ × List Token) → Option (List WireArgument × List ℕ × List Token)
with_one before read = read >>= λ x. Some (before ++ x.0 ∷ [], x.1, x.2)

-- what the parser answers if no whole message is there
abbrev pub RefusesHeader : List ℕ → MessageParseError → Type 0
RefusesHeader raw errors.MissingData = (length raw < 8) ⊎ ((8 ≤ length raw) × (8 ≤ length_of raw) × (length raw < length_of raw))
RefusesHeader raw errors.Malformed = (8 ≤ length raw) × (length_of raw < 8)
RefusesHeader raw _ = ⊥

-- what the parser answers if the message is there whole, but no arguments are given out
abbrev pub RefusesArguments : List ArgumentType → List ℕ → List Token → MessageParseError → Type 0
RefusesArguments signature payload fds errors.MissingFD = length fds < fd_count signature
RefusesArguments signature payload fds errors.Malformed = (fd_count signature ≤ length fds) × DoesNotRead signature payload fds
RefusesArguments signature payload fds errors.OutOfMemory =
    (fd_count signature ≤ length fds) × ((args : List WireArgument) × Reads signature args payload fds)
RefusesArguments signature payload fds errors.MissingData = ⊥
