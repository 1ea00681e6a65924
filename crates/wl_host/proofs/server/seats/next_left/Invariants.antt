use Rattle.std.proofs.Common.{◌≡◌, ◌≤◌, ℤ, List}
use Rattle.std.specs.VecDeque.{deque_capacity, deque_len}
use Rattle.wl_flat.specs.Descriptors.{Descriptors}
use Rattle.wl_host.specs.Seats.{AllEmpty, LeftPassesOut}
use Rattle.wl_host.proofs.server.seats.next_left.Given as goal

abbrev pub invariant-loop-queue : goal.invariant-loop-queue
invariant-loop-queue l = record {
  passed : (d : ℤ) (after : List Descriptors) → LeftPassesOut l.left.items d after → LeftPassesOut l.fn.left.items d after;
  empty : AllEmpty l.left.items → AllEmpty l.fn.left.items;
  len : deque_len l.left ≤ deque_len l.fn.left;
  capacity : deque_capacity l.left ≡ deque_capacity l.fn.left;
}

abbrev pub decreases-loop-queue : goal.decreases-loop-queue
decreases-loop-queue l = deque_len l.left
