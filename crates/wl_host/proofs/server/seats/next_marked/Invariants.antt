use Rattle.std.proofs.Common.{◌≡◌, length, vec_len}
use Rattle.wl_host.specs.Inside.Seats.{AreMarked}
use Rattle.wl_host.proofs.server.seats.next_marked.Given as goal

abbrev pub invariant-loop-slot : goal.invariant-loop-slot
invariant-loop-slot l = record {
  ledgers : l.ledgers.items ≡ l.fn.ledgers.items;
  len : vec_len l.ledgers ≡ vec_len l.fn.ledgers;
  marks : AreMarked l.fn.marked.slots l.fn.ledgers.items → AreMarked l.marked.slots l.ledgers.items;
  room : l.marked.room ≡ l.fn.marked.room;
}

abbrev pub decreases-loop-slot : goal.decreases-loop-slot
decreases-loop-slot l = length l.marked.slots
