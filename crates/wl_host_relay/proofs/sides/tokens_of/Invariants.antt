use Rattle.std.proofs.Common.{◌≡◌, map, take}
use Rattle.wl_flat.specs.Guards.{token_of}
use Rattle.wl_host_relay.proofs.sides.tokens_of.Given as goal

abbrev pub invariant-loop-descriptor : goal.invariant-loop-descriptor
invariant-loop-descriptor l = l.tokens.items ≡ map token_of (take l.descriptor-index l.descriptors)
