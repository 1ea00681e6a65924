use Rattle.std.proofs.Common.{◌≡◌, ◌<◌, ◌≤◌, ◌+◌, ◌-◌, true, drop, length, map}
use Rattle.wl_server_model.specs.Inside.Gathering.{count_leaving}
use Rattle.wl_server_model.specs.Inside.Leaving.{collected, ends_at, given_at}
use Rattle.wl_server.specs.Inside.Touched.{AllQuiet}
use Rattle.wl_server_client.specs.NoteTimes.{times_of}
use Rattle.wl_server_model.specs.Inside.NoteOrder.{count_places}
use Rattle.wl_server.proofs.notes.cleanup.count_work.Given as goal

abbrev pub invariant-loop-slot : goal.invariant-loop-slot
invariant-loop-slot g l = record {
  gathered : l.gathered < 0xFFFFFFFFFFFFFFFF → count_leaving true l.clients ≤ l.gathered + count_leaving true (drop l.slot l.clients);
  places : l.gathered < 0xFFFFFFFFFFFFFFFF → count_places true (map times_of l.clients) ≤ l.gathered + count_places true
      (map times_of (drop l.slot l.clients));
  few_gathered : l.gathered + count_leaving true (drop l.slot l.clients) ≤ count_leaving true l.clients;
  leaving : l.leaving < 0xFFFFFFFFFFFFFFFF → length (collected given_at 0 l.clients) ≤ l.leaving + length
      (collected given_at l.slot (drop l.slot l.clients));
  few_leaving : l.leaving + length (collected given_at l.slot (drop l.slot l.clients)) ≤ length (collected given_at 0 l.clients);
  ends : l.ends < 0xFFFFFFFFFFFFFFFF → length (collected ends_at 0 l.clients) ≤ l.ends + length (collected ends_at l.slot (drop l.slot l.clients));
  quiet : AllQuiet l.to_note.words.items l.clients;
  within : l.slot ≤ l.end;
  all : l.end ≡ length l.clients;
}

abbrev pub decreases-loop-slot : goal.decreases-loop-slot
decreases-loop-slot g l = l.end - l.slot
