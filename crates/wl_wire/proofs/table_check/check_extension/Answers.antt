use Rattle.std.proofs.Common.{◌++◌, map, arith}
use Rattle.wl_wire.specs.Table.{interface_rows, message_row}
use Rattle.wl_wire.proofs.Extension.{LackFirst-all}
use Rattle.wl_wire.proofs.table_check.check_extension.Goals as goal

pub returns-clause-faultless : goal.returns-clause-faultless
returns-clause-faultless c =
    LackFirst-all (interface_rows c.args.table.now) c.args.id.0 (map message_row c.args.requests.now ++ map message_row c.args.events.now)
    (λ f lt. c.loop-fault.invariant f (omega arith))
