use Rattle.std.proofs.Common.{◌≡◌, length, map}
use Rattle.wl_server_client.specs.Felt.{Hears, removals}
use Rattle.wl_server_model.specs.Inside.Places.{AllFeel}
use Rattle.wl_server_model.specs.NoteOrder.{AllNumbered, InTimeBelow}
use Rattle.wl_server_client.specs.NoteTimes.{times_of}
use Rattle.wl_server.proofs.globals.remove_global.tell_loss.Given as goal

abbrev pub invariant-loop-slot : goal.invariant-loop-slot
invariant-loop-slot g l = record {
  felt : AllFeel (λ id p lacked did q. Hears g.T.Transport.sends p (removals p l.fn.name) lacked did q) l.refused l.slot l.fn.clients l.clients;
  ends : l.slot-end ≡ length l.fn.clients;
  in_time : InTimeBelow l.slot (map times_of l.fn.clients) l.fn.numbers (map times_of l.clients) l.numbers;
  numbered : AllNumbered l.fn.clients → AllNumbered l.clients;
}
