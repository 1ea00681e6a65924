use Rattle.std.proofs.Common.{◌≡◌, ◌++◌, length}
use Rattle.std.specs.List.{All, flat_map}
use Rattle.wl_relay.specs.Words.{IsByte}
use Rattle.wl_relay.specs.Words.{hex_digits}
use Rattle.wl_relay.proofs.words.hex_bytes.Given as goal

-- what was read is the bytes so far, and the rest is still to be read
abbrev pub invariant-loop-rest : goal.invariant-loop-rest
invariant-loop-rest l = All IsByte l.found.items × (l.glyphs ≡ flat_map hex_digits l.found.items ++ l.rest)

abbrev pub decreases-loop-rest : goal.decreases-loop-rest
decreases-loop-rest l = length l.rest
