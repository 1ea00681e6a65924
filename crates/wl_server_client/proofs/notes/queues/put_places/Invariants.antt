use Rattle.std.proofs.Common.{◌≡◌, ◌++◌, map}
use Rattle.std.specs.VecDeque.Iter.{deque_iter_rest}
use Rattle.wl_server_client.specs.Inside.NoteTimes.{place_of}
use Rattle.wl_server_client.proofs.notes.queues.put_places.Given as goal

abbrev pub invariant-loop-number : goal.invariant-loop-number
invariant-loop-number g l =
    l.order.items ++ map (place_of l.waits l.slot) (deque_iter_rest l.number-iterator) ≡ l.fn.order.items
    ++ map (place_of l.waits l.slot) l.queue.items
