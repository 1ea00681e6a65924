use Rattle.std.proofs.Common.{◌≡◌, ◌++◌, take, map}
use Rattle.wl_wire.specs.Table.{message_row}
use Rattle.wl_bench.specs.Rows.{message_of}
use Rattle.wl_bench.proofs.table.push_messages.Given as goal

abbrev pub invariant-loop-row : goal.invariant-loop-row
invariant-loop-row l = map message_row l.messages.items ≡ map message_row l.fn.messages.items ++ map message_of (take l.row-index l.rows)
