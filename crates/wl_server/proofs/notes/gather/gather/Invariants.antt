use Rattle.std.proofs.Common.{◌≡◌, ℕ, drop, map, take}
use Rattle.std.specs.Vec.{vec_capacity}
use Rattle.wl_server_model.specs.Inside.Gathering.{Gathers}
use Rattle.wl_server_model.specs.NoteOrder.{AllNumbered, AllTakeFirst, Along}
use Rattle.wl_server_client.specs.NoteTimes.{times_of}
use Rattle.wl_server_client.specs.Inside.NoteTimes.{AreNumbered}
use Rattle.wl_server_model.specs.Server.{stored_at}
use Rattle.wl_server_model.proofs.CleanupSteps.Ordering.{Left}
use Rattle.wl_server.proofs.notes.gather.gather.Given as goal

abbrev pub invariant-loop-place : goal.invariant-loop-place
invariant-loop-place g l = record {
  gathered : Gathers l.waits l.fn.clients.items l.fn.notes.items l.clients.items l.notes.items;
  left : Left l.waits l.clients.items (drop l.place-index l.order);
  along : Along l.fn.notes.items l.notes.items (take l.place-index l.order);
  first : AllTakeFirst (map times_of l.fn.clients.items) (map times_of l.clients.items);
  numbered : (k : ℕ) → AreNumbered l.waits (stored_at k l.clients.items);
  all_numbered : AllNumbered l.fn.clients.items → AllNumbered l.clients.items;
  capacity : vec_capacity l.notes ≡ vec_capacity l.fn.notes;
}
