use Rattle.std.proofs.Common.{◌≡◌, ◌≤◌, ◌+◌, ◌++◌, length, take}
use Rattle.std.specs.VecDeque.{deque_len, deque_capacity}
use Rattle.wl_flat.proofs.descriptors.append.Given as goal

abbrev pub invariant-loop-descriptor : goal.invariant-loop-descriptor
invariant-loop-descriptor l = (l.to.items ≡ l.fn.to.items ++ take l.descriptor-index l.descriptors) × (deque_len l.to + length l.descriptors ≤ deque_capacity l.to + l.descriptor-index)
