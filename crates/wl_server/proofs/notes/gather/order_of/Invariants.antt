use Rattle.std.proofs.Common.{◌≡◌, ◌≤◌, ◌-◌, length, ◌++◌, drop, map}
use Rattle.wl_server_model.specs.NoteOrder.{all_places}
use Rattle.wl_server_client.specs.NoteTimes.{times_of}
use Rattle.wl_server_model.proofs.CleanupSteps.Ordering.{Placed}
use Rattle.wl_server.proofs.notes.gather.order_of.Given as goal

abbrev pub invariant-loop-slot : goal.invariant-loop-slot
invariant-loop-slot g l = record {
  placed : Placed l.waits l.clients l.slot l.order.items;
  numbers : l.order.items ++ all_places l.waits l.slot (map times_of (drop l.slot l.clients)) ≡ all_places l.waits 0 (map times_of l.clients);
  within : l.slot ≤ l.end;
  ends : l.end ≡ length l.clients;
}

abbrev pub decreases-loop-slot : goal.decreases-loop-slot
decreases-loop-slot g l = l.end - l.slot
