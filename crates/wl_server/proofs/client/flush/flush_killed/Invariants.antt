use Rattle.std.proofs.Common.{◌≡◌, ◌-◌, ◌≤◌, length, map}
use Rattle.wl_server_model.specs.Inside.Leaving.{FlushesKilled}
use Rattle.wl_server_model.specs.Inside.Places.{AllFeel}
use Rattle.wl_server_model.specs.NoteOrder.{AllNumbered}
use Rattle.wl_server_client.specs.NoteTimes.{times_of}
use Rattle.wl_server.proofs.client.flush.flush_killed.Given as goal

abbrev pub invariant-loop-slot : goal.invariant-loop-slot
invariant-loop-slot g l = record {
  felt : AllFeel (λ id p lacked did q. FlushesKilled g.T.Transport.sends p lacked did q) l.refused l.slot l.fn.clients.items l.clients.items;
  within : l.slot ≤ l.end;
  ends : l.end ≡ length l.fn.clients.items;
  times : map times_of l.clients.items ≡ map times_of l.fn.clients.items;
  numbered : AllNumbered l.fn.clients.items → AllNumbered l.clients.items;
}

abbrev pub decreases-loop-slot : goal.decreases-loop-slot
decreases-loop-slot g l = l.end - l.slot
