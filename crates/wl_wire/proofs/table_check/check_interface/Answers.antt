use Rattle.std.proofs.Common.{arith}
use Rattle.wl_wire.specs.Table.{interface_row}
use Rattle.wl_wire.proofs.Faults.{LacksFirst-all}
use Rattle.wl_wire.proofs.table_check.check_interface.Goals as goal

pub returns-clause-faultless : goal.returns-clause-faultless
returns-clause-faultless c =
    LacksFirst-all c.args.is_taken c.args.count (interface_row c.args.interface.now) (λ f lt. c.loop-fault.invariant f (omega arith))
