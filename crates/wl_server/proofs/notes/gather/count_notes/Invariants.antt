use Rattle.std.proofs.Common.{◌≡◌, ◌<◌, ◌≤◌, ◌+◌, ◌-◌, drop, length, map}
use Rattle.wl_server_model.specs.Inside.Gathering.{count_leaving}
use Rattle.wl_server_model.specs.Inside.NoteOrder.{count_places}
use Rattle.wl_server.specs.Inside.Touched.{AllQuiet}
use Rattle.wl_server_client.specs.NoteTimes.{times_of}
use Rattle.wl_server.proofs.notes.gather.count_notes.Given as goal

abbrev pub invariant-loop-slot : goal.invariant-loop-slot
invariant-loop-slot g l = record {
  all : l.count < 0xFFFFFFFFFFFFFFFF → count_leaving l.waits l.clients ≤ l.count + count_leaving l.waits (drop l.slot l.clients);
  places : l.count < 0xFFFFFFFFFFFFFFFF → count_places l.waits (map times_of l.clients) ≤ l.count + count_places l.waits
      (map times_of (drop l.slot l.clients));
  no_more : l.count + count_leaving l.waits (drop l.slot l.clients) ≤ count_leaving l.waits l.clients;
  quiet : AllQuiet l.to_note.words.items l.clients;
  within : l.slot ≤ l.end;
  ends : l.end ≡ length l.clients;
}

abbrev pub decreases-loop-slot : goal.decreases-loop-slot
decreases-loop-slot g l = l.end - l.slot
