use Rattle.std.proofs.Common.{◌≡◌, drop}
use Rattle.std.specs.VecDeque.{deque_capacity}
use Rattle.wl_wire.proofs.parse.take_tokens.Given as goal

abbrev pub invariant-loop : goal.invariant-loop
invariant-loop l = (l.fds.items ≡ drop l.counter l.fn.fds.items) × (deque_capacity l.fds ≡ deque_capacity l.fn.fds)
