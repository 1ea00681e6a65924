use Rattle.std.proofs.Common.{◌≡◌, ◌≤◌, ◌+◌, drop, length}
use Rattle.std.specs.VecDeque.{deque_len}
use Rattle.wl_server_client.specs.Inside.InPlace.{IsMade, converting, named}
use Rattle.wl_server_client.proofs.reading.in_place.arguments.put_each.Given as goal

-- those that are left come behind those that were put
abbrev pub invariant-loop-kind : goal.invariant-loop-kind
invariant-loop-kind g l = record {
  left : named l.naming.client l.naming.limit l.naming.version (converting l.naming l.progress) l.args.items l.progress.kinds.now l.bytes
      (drop l.used l.tokens.items)
      ≡ named l.naming.client l.naming.limit l.naming.version (converting l.naming l.fn.progress) l.fn.args.items l.fn.progress.kinds.now l.fn.payload
      l.tokens.items;
  made : IsMade l.naming l.progress;
  room : length l.args.items + length l.progress.kinds.now ≤ l.args.capacity;
  used : l.used ≤ deque_len l.tokens;
}

abbrev pub decreases-loop-kind : goal.decreases-loop-kind
decreases-loop-kind g l = length l.progress.kinds.now
