use Rattle.std.proofs.Common.{◌≡◌}
use Rattle.std.specs.Iterator.Adapters.{enumerate_count, enumerate_source}
use Rattle.std.specs.Vec.Iter.{into_iter_items}
use Rattle.wl_wire.specs.Table.{interface_rows}
use Rattle.wl_flat.specs.Extending.{joined, parts_from, parts_of, parts_seen}
use Rattle.wl_flat.proofs.extending.parts_of.Given as goal

-- what the rows that are left have is still to come
abbrev pub invariant-loop-at : goal.invariant-loop-at
invariant-loop-at l =
    parts_of l.protocol (interface_rows l.fn.rows.items)
    ≡ joined (parts_seen l.parts) (parts_from l.protocol (enumerate_count l.at-iterator) (interface_rows (into_iter_items (enumerate_source l.at-iterator))))
