use Rattle.std.proofs.Common.{◌≡◌, map, take}
use Rattle.wl_wire.specs.Inside.FixedInterfaces.{row_of_message}
use Rattle.wl_wire.specs.Table.{message_row}
use Rattle.wl_wire.proofs.core_interfaces.messages_of.Given as goal

abbrev pub invariant-loop-row : goal.invariant-loop-row
invariant-loop-row l = map message_row l.messages.items ≡ map row_of_message (take l.row-index l.rows)
