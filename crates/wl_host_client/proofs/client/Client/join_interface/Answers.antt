use Rattle.std.proofs.Common.{rules, inl, subst}
use Rattle.wl_wire.specs.Table.{interface_row, interface_rows}
use Rattle.wl_flat.proofs.RowsJoin.{says_one}
use Rattle.wl_host_client.specs.Client.{HostedClient}
use Rattle.wl_host_client.specs.Tables.{JoinsClient}
use Rattle.wl_host_client.proofs.client.Client.join_interface.Goals as goal

-- the interface that was read, and what the table made of it
pub returns-clause-call : goal.returns-clause-call
returns-clause-call c =
    subst (λ (s : HostedClient). JoinsClient c.args.rows.now s.core c.join_others.result c.join_others.new.core) c.self.view_is (inl (
      interface_row c.in-Some.said,
      says_one c.args.rows.now (interface_rows c.in_ok-interfaces.interfaces.items) (interface_row c.in-Some.said) (search rules) (search rules),
      c.join_others.ensures,
    ))
