use Rattle.std.proofs.Common.{◌≡◌, ◌+◌, ◌≤◌, length}
use Rattle.wl_link.specs.Inside.PlaceList.{entries_from}
use Rattle.wl_link.proofs.all_objects.RangeObjectsIterator.next.Given as goal

-- only places without an object were passed over
abbrev pub invariant-loop-slot : goal.invariant-loop-slot
invariant-loop-slot g l = record {
  fits : l.self-inside.number + length l.self-inside.slots.now ≤ 4294967296;
  left : entries_from l.self-inside.number l.self-inside.slots.now ≡ l.fn.self;
}

abbrev pub decreases-loop-slot : goal.decreases-loop-slot
decreases-loop-slot g l = length l.self-inside.slots.now
