use Rattle.wl_wire.specs.Inside.TableCheck.{LacksFirst}
use Rattle.wl_wire.specs.Table.{interface_row}
use Rattle.wl_wire.proofs.table_check.check_interface.Given as goal

abbrev pub invariant-loop-fault : goal.invariant-loop-fault
invariant-loop-fault l = LacksFirst l.fault-index l.is_taken l.count (interface_row l.interface)
