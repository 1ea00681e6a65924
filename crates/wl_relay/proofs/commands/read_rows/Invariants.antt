use Rattle.wl_wire.specs.Table.{interface_rows}
use Rattle.wl_relay.specs.Inside.Reading.{HasRows}
use Rattle.wl_relay.proofs.commands.read_rows.Given as goal

abbrev pub invariant-loop-number : goal.invariant-loop-number
invariant-loop-number g l = HasRows l.number (g.R.Read.remaining l.fn.reader) (g.R.Read.remaining l.reader) (interface_rows l.interfaces.items)
