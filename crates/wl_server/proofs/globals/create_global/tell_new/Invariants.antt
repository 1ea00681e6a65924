use Rattle.std.proofs.Common.{◌≡◌, length, map}
use Rattle.wl_server_client.specs.Globals.{shown_as}
use Rattle.wl_server_client.specs.Inside.News.{HearsNew}
use Rattle.wl_server_model.specs.Inside.Places.{AllFeel}
use Rattle.wl_server_model.specs.NoteOrder.{AllNumbered, InTimeBelow}
use Rattle.wl_server_client.specs.NoteTimes.{times_of}
use Rattle.wl_server.proofs.globals.create_global.tell_new.Given as goal

abbrev pub invariant-loop-slot : goal.invariant-loop-slot
invariant-loop-slot g l = record {
  felt : AllFeel (HearsNew g.T.Transport.sends g.G.GlobalHandler.views l.protocol l.id l.global) l.refused l.slot l.fn.clients l.clients;
  table : l.announcement.table ≡ l.protocol;
  global : l.announcement.global ≡ shown_as (l.id.name, l.global);
  ends : l.slot-end ≡ length l.fn.clients;
  in_time : InTimeBelow l.slot (map times_of l.fn.clients) l.fn.numbers (map times_of l.clients) l.numbers;
  numbered : AllNumbered l.fn.clients → AllNumbered l.clients;
}
