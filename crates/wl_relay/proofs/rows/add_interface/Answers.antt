use Rattle.std.proofs.Common.{rules}
use Rattle.wl_relay.specs.Rows.{IsInterface}
use Rattle.wl_relay.specs.Words.{spoken}
use Rattle.wl_wire.specs.Table.{interface_row}
use Rattle.wl_relay.proofs.RowWords.{rows_pushed}
use Rattle.wl_relay.proofs.rows.add_interface.Goals as goal

pub returns-clause-added : goal.returns-clause-added
returns-clause-added c = λ _.
    let is : IsInterface (interface_row c.in-Some.interface) (spoken c.args.words.now) = search rules in
    (interface_row c.in-Some.interface, is, rows_pushed c.args.interfaces.now.items _ c.in-Some.interface c.in_ok-push.ensures.items)
