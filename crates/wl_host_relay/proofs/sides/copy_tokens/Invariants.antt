use Rattle.std.proofs.Common.{◌≡◌, drop, map, take}
use Rattle.wl_flat.specs.Guards.{descriptor_of}
use Rattle.wl_host_relay.proofs.sides.copy_tokens.Given as goal

abbrev pub invariant-loop-index : goal.invariant-loop-index
invariant-loop-index l = record {
  written : take l.index l.to ≡ map descriptor_of (take l.index l.tokens);
  rest : drop l.index l.to ≡ drop l.index l.fn.to;
}
