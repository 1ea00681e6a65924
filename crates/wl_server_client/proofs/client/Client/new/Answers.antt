use Rattle.std.proofs.Common.{false, None, map, arith}
use Rattle.std.proofs.lemmas.Grind.{common_steps}
use Rattle.wl_server_client.proofs.client.Client.new.Goals as goal
use Rattle.wl_server_client.specs.Stored.{no_times}
use Rattle.wl_server_client.proofs.CallSteps.Numbers.{gives_none}

pub returns-clause-inserted : goal.returns-clause-inserted
returns-clause-inserted g c = (
  c.in_ok-socket.socket,
  c.in_ok-socket.ensures.link,
  λ i. record {
    serial = c.args.serial;
    part = record {
      link = c.in_ok-socket.socket;
      client_data = c.args.client_data;
      store = c.in_ok-socket.ensures.objects i;
      last_serial = 0;
      is_killed = false;
      action = c.new-2.ensures i;
      registries = c.new.ensures.items i;
      waiting = map (λ w. w.1) (c.new-3.ensures i);
      violation = None;
    };
    made = c.in_ok-socket.ensures.notes i;
    times = no_times;
  },
)

pub returns-clause-in_time : goal.returns-clause-in_time
returns-clause-in_time g c = grind (arith, common_steps, gives_none)
