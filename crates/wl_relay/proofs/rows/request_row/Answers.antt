use Rattle.wl_wire.specs.Table.{MessageRow}
use Rattle.wl_relay.specs.Rows.{IsMessage}
use Rattle.wl_relay.specs.Words.{spoken}
use Rattle.std.proofs.Common.{rules}
use Rattle.wl_relay.proofs.rows.request_row.Goals as goal

pub returns-in-None-clause-none : goal.returns-in-None-clause-none
returns-in-None-clause-none c =
    let none : (m : MessageRow) → ¬ (IsMessage m (spoken c.args.words.now)) = search rules in
    λ same rows adds. none adds.0 adds.1
