use Rattle.std.proofs.Common.{◌≡◌, ◌+◌, ◌%◌, ◌^◌, length, take}
use Rattle.wl_flat.specs.Descriptors.{next_tokens}
use Rattle.wl_flat.proofs.descriptors.DescriptorQueue.next_tokens.Given as goal

abbrev pub invariant-loop-index : goal.invariant-loop-index
invariant-loop-index l = record {
  written : take l.index l.tokens ≡ next_tokens l.self l.index;
  next : l.next ≡ (l.self.front + (length l.self.held + l.index)) % 2 ^ 32;
  same_length : length l.tokens ≡ length l.initial.tokens;
}
