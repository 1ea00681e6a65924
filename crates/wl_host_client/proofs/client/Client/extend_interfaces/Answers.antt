use Rattle.std.proofs.Common.{rules, inl, ◌∙◌}
use Rattle.wl_wire.specs.Table.{interface_rows}
use Rattle.wl_host_client.proofs.ClientGrowth.{extends_keep}
use Rattle.wl_host_client.proofs.client.Client.extend_interfaces.Goals as goal

-- the interfaces that were read, and what the table made of them
pub returns-clause-call : goal.returns-clause-call
returns-clause-call c =
    rw (← c.self.view_is) (inl (interface_rows c.in_ok-interfaces.interfaces.items, search rules, c.extend.ensures))

pub invariant_of-self : goal.invariant_of-self
invariant_of-self c = extends_keep _ _ _ _ _ c.extend.ensures ∙ c.self.invariant
