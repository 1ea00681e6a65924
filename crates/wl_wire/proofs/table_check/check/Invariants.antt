use Rattle.std.proofs.Common.{◌<◌, ◌≤◌, ◌++◌, length}
use Rattle.wl_wire.specs.Table.{HasFaultFrom, interface_rows, place, table_of}
use Rattle.wl_wire.specs.declared.protocol.TableError.{TableError}
use Rattle.wl_wire.proofs.table_check.check.Given as goal

abbrev pub invariant-loop-at : goal.invariant-loop-at
invariant-loop-at l = record {
  no_repeat : l.at ≤ l.repeat;
  no_fault : (fault : TableError) → place fault < l.at → ¬ (HasFaultFrom (length (table_of l.kept)) (table_of l.kept ++ interface_rows l.interfaces) fault);
}
