use Rattle.std.proofs.Common.{◌≡◌, ◌+◌, ◌≤◌, length}
use Rattle.std.specs.Vec.Iter.{into_iter_items}
use Rattle.wl_link.specs.Inside.PlaceList.{entries_from}
use Rattle.wl_link.proofs.into_objects.RangeIntoObjectsIterator.next.Given as goal

-- only places without an object were passed over
abbrev pub invariant-loop-slot : goal.invariant-loop-slot
invariant-loop-slot g l = record {
  fits : l.self-inside.number + length (into_iter_items l.self-inside.slots) ≤ 4294967296;
  left : entries_from l.self-inside.number (into_iter_items l.self-inside.slots) ≡ l.fn.self;
}

abbrev pub decreases-loop-slot : goal.decreases-loop-slot
decreases-loop-slot g l = length (into_iter_items l.self-inside.slots)
