-- What is gathered from the words of a line: the arguments of a message, and what came from a side.
use Rattle.std.specs.Prelude.{◌≡◌, List, map, Option, MatchOption}
use Rattle.std.specs.List.{AllZip}
use Rattle.wl_link.specs.Exchange.{Queue}
use Rattle.wl_follow.specs.declared.side.Side.{Side}
use Rattle.wl_relay.specs.declared.commands.Arrival.{Arrival}
use Rattle.wl_relay.specs.declared.rows.Arguments.{Arguments}
use Rattle.wl_relay.specs.Rows.{IsArgument, Kind, child_of, places_of, type_of}
use Rattle.wl_relay.specs.Words.{Word}

-- these are the arguments so far
abbrev pub Gathers : List Kind → Arguments → Type 0
Gathers kinds a = (a.signature.items ≡ map type_of kinds) × (a.child_interface ≡ child_of kinds) × (a.arg_interfaces.items ≡ places_of kinds)

-- the arguments are those of the words
abbrev pub ArgumentsOf : List Word → Arguments → Type 0
ArgumentsOf ws a = (kinds : List Kind) × AllZip IsArgument kinds ws × Gathers kinds a

-- the bytes and tokens that came
abbrev pub came_of : Arrival → Queue
came_of a = record { bytes = a.bytes.items; tokens = a.tokens.items }

-- what came, by what says so; or nothing, if nothing does
abbrev pub FindsArrival : (Side → Queue → Type 0) → Option Arrival → Type 0
FindsArrival Says found = MatchOption found ((side : Side) (came : Queue) → ¬ (Says side came)) (λ a. Says a.side (came_of a))
