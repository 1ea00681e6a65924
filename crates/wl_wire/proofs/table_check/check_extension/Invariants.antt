use Rattle.std.specs.Prelude.{◌++◌, map}
use Rattle.wl_wire.specs.Inside.TableCheck.{LackFirst}
use Rattle.wl_wire.specs.Table.{interface_rows, message_row}
use Rattle.wl_wire.proofs.table_check.check_extension.Given as goal

abbrev pub invariant-loop-fault : goal.invariant-loop-fault
invariant-loop-fault l = LackFirst l.fault-index (interface_rows l.table) l.id.0 (map message_row l.requests ++ map message_row l.events)
