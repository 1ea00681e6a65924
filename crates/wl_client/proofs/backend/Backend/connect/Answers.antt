use Rattle.std.proofs.Common.{None, false}
use Rattle.wl_client.proofs.backend.Backend.connect.Goals as goal

pub returns-clause-connected : goal.returns-clause-connected
returns-clause-connected g c = (
  c.in_ok-socket.socket,
  c.in_ok-socket.ensures,
  λ i. record {
    table = c.args.protocol;
    link = c.in_ok-socket.socket;
    store = c.in_ok-objects.ensures i;
    last_serial = 0;
    error = None;
    open_event = None;
    notes = c.new-2.ensures.items i;
    passes_over = false;
    keeps_freed = false;
    freed = c.new-3.ensures.items i;
  },
)
