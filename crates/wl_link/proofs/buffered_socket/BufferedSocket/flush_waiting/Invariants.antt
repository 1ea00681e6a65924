use Rattle.std.proofs.Common.{◌≤◌, length}
use Rattle.std.specs.VecDeque.{deque_capacity}
use Rattle.wl_link.specs.Inside.WaitingBytes.{beside}
use Rattle.wl_link.proofs.Calls.FlushLaws.{FlushLeads}
use Rattle.wl_link.proofs.buffered_socket.BufferedSocket.flush_waiting.Given as goal

abbrev pub invariant-loop-self : goal.invariant-loop-self
invariant-loop-self g l =
    FlushLeads g.T.Transport.sends l.fn.self
    (record {
      transport = l.self-inside.transport;
      incoming = beside l.self-inside.incoming.bytes l.self-inside.tokens_in.items;
      incoming_capacity = l.self-inside.incoming.size;
      outgoing = beside l.self-inside.outgoing.bytes l.self-inside.tokens_out;
      outgoing_capacity = l.self-inside.outgoing.size;
      limit = l.self-inside.limit;
    })
    × (56 ≤ deque_capacity l.self-inside.tokens_in)

abbrev pub decreases-loop-self : goal.decreases-loop-self
decreases-loop-self g l = length l.self-inside.outgoing.bytes
