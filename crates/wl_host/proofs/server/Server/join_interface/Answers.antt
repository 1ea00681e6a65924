use Rattle.std.proofs.Common.{rules, inl, subst}
use Rattle.wl_wire.specs.Table.{interface_row, interface_rows}
use Rattle.wl_flat.proofs.RowsJoin.{says_one}
use Rattle.wl_host.specs.Server.{ServerState}
use Rattle.wl_host.specs.Tables.{JoinsServer}
use Rattle.wl_host.proofs.server.Server.join_interface.Goals as goal

-- the interface that was read, and what the table made of it
pub returns-clause-call : goal.returns-clause-call
returns-clause-call c =
    subst (λ (s : ServerState). JoinsServer c.args.rows.now s.core c.join.result c.join.new.core) c.self.view_is (inl (
      interface_row c.in-Some.said,
      says_one c.args.rows.now (interface_rows c.in_ok-interfaces.interfaces.items) (interface_row c.in-Some.said) (search rules) (search rules),
      c.join.ensures,
    ))
