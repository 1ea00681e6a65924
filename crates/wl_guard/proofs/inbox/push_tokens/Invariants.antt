-- That the tokens so far were appended, and that there is room for the others.
use Rattle.std.proofs.Common.{◌≡◌, ◌≤◌, ◌+◌, ◌++◌, length, take}
use Rattle.std.specs.VecDeque.{deque_capacity, deque_len}
use Rattle.wl_guard.proofs.inbox.push_tokens.Given as goal

abbrev pub invariant-loop-token : goal.invariant-loop-token
invariant-loop-token l = (l.to.items ≡ l.fn.to.items ++ take l.token-index l.tokens) × (deque_len l.to + length l.tokens ≤ deque_capacity l.to + l.token-index)
