use Rattle.std.proofs.Common.{subst, sym}
use Rattle.wl_wire.specs.Table.{IsAcceptedTable, interface_rows}
use Rattle.wl_wire.proofs.Growth.{answer_accepted, answer_exact, answer_memory, answer_refused}
use Rattle.wl_wire.proofs.protocol.Protocol.extend.Goals as goal

pub invariant_of-self : goal.invariant_of-self
invariant_of-self c =
    subst IsAcceptedTable (sym c.append.ensures.table)
    (answer_accepted (interface_rows c.self.inside.interfaces.items) (interface_rows c.args.interfaces.items) c.self.invariant c.append.result c.append.ensures.answer)

pub returns-clause-accepted : goal.returns-clause-accepted
returns-clause-accepted c =
    subst IsAcceptedTable (sym c.append.ensures.table)
    (answer_accepted (interface_rows c.self.inside.interfaces.items) (interface_rows c.args.interfaces.items) c.self.invariant c.append.result c.append.ensures.answer)

pub returns-clause-refused : goal.returns-clause-refused
returns-clause-refused c =
    rw (← c.self.view_is) (answer_refused (interface_rows c.self.inside.interfaces.items) (interface_rows c.args.interfaces.items) c.append.result c.append.ensures.answer)

pub returns-clause-exact : goal.returns-clause-exact
returns-clause-exact c =
    rw (← c.self.view_is) (answer_exact (interface_rows c.self.inside.interfaces.items) (interface_rows c.args.interfaces.items) c.self.invariant c.append.result c.append.ensures.answer)

pub returns-clause-memory : goal.returns-clause-memory
returns-clause-memory c =
    rw (← c.self.view_is) (answer_memory (interface_rows c.self.inside.interfaces.items) (interface_rows c.args.interfaces.items) c.self.invariant c.append.result c.append.ensures.answer)
