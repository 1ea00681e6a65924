use Rattle.std.proofs.Common.{◌≡◌, drop}
use Rattle.wl_wire.specs.Table.{interface_rows}
use Rattle.wl_flat.specs.Rows.{interfaces_from, said_by}
use Rattle.wl_flat.proofs.RowsRead.{after_all}
use Rattle.wl_flat.proofs.rows.interfaces_of.Given as goal

-- the rows that are left say what comes behind the interfaces that were read
abbrev pub invariant-loop-at : goal.invariant-loop-at
invariant-loop-at l =
    said_by l.rows ≡ after_all (interface_rows l.interfaces.items)
    (interfaces_from l.rows.text.now l.at (drop l.at l.row-items) (l.unread.messages.now, l.unread.arguments.now))
