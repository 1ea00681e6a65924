use Rattle.std.proofs.Common.{◌≡◌, map, take}
use Rattle.std.specs.List.{All}
use Rattle.wl_relay.specs.Words.{IsTokenNumber, token}
use Rattle.wl_relay.proofs.words.tokens_of.Given as goal

abbrev pub invariant-loop-number : goal.invariant-loop-number
invariant-loop-number l =
    All IsTokenNumber (take l.number-index l.numbers) × (l.tokens.items ≡ map token (take l.number-index l.numbers))
