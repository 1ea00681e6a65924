-- The tokens up to the index have the numbers of the descriptors.
use Rattle.std.proofs.Common.{◌≡◌, length, take}
use Rattle.wl_flat.specs.Told.{as_tokens}
use Rattle.wl_flat.proofs.telling.as_tokens.Given as goal

abbrev pub invariant-loop-index : goal.invariant-loop-index
invariant-loop-index l = record {
  length : length l.tokens ≡ length l.fn.tokens;
  written : take l.index l.tokens ≡ as_tokens (take l.index l.descriptors);
}
