-- Messages one after another in a stream of bytes and tokens.
use Rattle.std.specs.Prelude.{◌≡◌, ℕ, List, [], ◌∷◌, length, drop, Option, Some}
use Rattle.wl_wire.specs.declared.argument.ArgumentType.{ArgumentType}
use Rattle.wl_wire.specs.declared.argument.Token.{Token}
use Rattle.wl_wire.specs.Message.{WireMessage, tokens}
use Rattle.wl_wire.specs.Parse.{length_of, ReadsMessage}

-- The bytes and the tokens begin with these messages, each under the signature that its sender and opcode have
-- and each as long as its header says; what is left after them is a rest.
unfoldable pub Stream : (ℕ → ℕ → Option (List ArgumentType)) → List WireMessage → List ℕ → List Token → Type 0
Stream look_up [] bytes fds = Unit {0}
Stream look_up (m ∷ ms) bytes fds =
    (signature : List ArgumentType) × (look_up m.sender m.opcode ≡ Some signature) × ReadsMessage bytes signature fds m
    × Stream look_up ms (drop (length_of bytes) bytes) (drop (length (tokens m.args)) fds)
