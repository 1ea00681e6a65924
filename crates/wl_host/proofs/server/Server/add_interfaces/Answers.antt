use Rattle.std.proofs.Common.{rules, inl}
use Rattle.wl_wire.specs.Table.{interface_rows}
use Rattle.wl_host.proofs.server.Server.add_interfaces.Goals as goal

-- the interfaces that were read, and the answer of the core
pub returns-clause-call : goal.returns-clause-call
returns-clause-call c = inl (interface_rows c.in_ok-interfaces.interfaces.items, c.add_interfaces.result, search rules, search rules, search rules)
