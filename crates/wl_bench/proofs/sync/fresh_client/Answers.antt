use Rattle.std.proofs.Common.{ap, ◌∙◌}
use Rattle.wl_wire.specs.Table.{table_of}
use Rattle.wl_bench.proofs.FirstSync.{fresh_is}
use Rattle.wl_bench.proofs.sync.fresh_client.Goals as goal

pub returns-clause-ok : goal.returns-clause-ok
returns-clause-ok c =
    let table = c.in_ok-table.ensures.table ∙ ap table_of c.new.ensures.items in
    fresh_is _ _ _ table c.new-3.ensures c.in_ok-client.ensures.connected
