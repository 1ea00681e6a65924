use Rattle.std.proofs.Common.{◌≡◌, ◌≤◌, ◌+◌, ◌++◌, length, take}
use Rattle.std.specs.VecDeque.{deque_len, deque_capacity}
use Rattle.wl_follow.proofs.sent.append_tokens.Given as goal

abbrev pub invariant-loop-token : goal.invariant-loop-token
invariant-loop-token l = (l.to.items ≡ l.fn.to.items ++ take l.token-index l.tokens) × (deque_len l.to + length l.tokens ≤ deque_capacity l.to + l.token-index)
