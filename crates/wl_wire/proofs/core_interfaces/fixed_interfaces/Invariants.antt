use Rattle.std.proofs.Common.{◌≡◌, map, take}
use Rattle.wl_wire.specs.Inside.FixedInterfaces.{row_of_interface}
use Rattle.wl_wire.specs.Table.{interface_rows}
use Rattle.wl_wire.proofs.core_interfaces.fixed_interfaces.Given as goal

abbrev pub invariant-loop-row : goal.invariant-loop-row
invariant-loop-row l = interface_rows l.fixed.items ≡ map row_of_interface (take l.row-index l.row-items)
