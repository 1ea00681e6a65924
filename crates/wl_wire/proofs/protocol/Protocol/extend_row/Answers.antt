use Rattle.std.proofs.Common.{◌≡◌, List, Some, subst, sym}
use Rattle.wl_wire.specs.MessageRows.{event_row, request_row}
use Rattle.wl_wire.specs.Table.{InterfaceRow, IsAcceptedTable, extension_of, interface_rows, name_of}
use Rattle.wl_wire.proofs.Extension.{event_stays, extension_accepted, extension_exact, extension_memory, name_stays, request_stays}
use Rattle.wl_wire.proofs.protocol.Protocol.extend_row.Goals as goal

pub invariant_of-self : goal.invariant_of-self
invariant_of-self c =
    let more = extension_of c.args.id c.args.version c.args.requests.items c.args.events.items in
    subst IsAcceptedTable (sym c.append_messages.ensures.table)
    (extension_accepted (interface_rows c.self.inside.interfaces.items) more c.self.invariant c.append_messages.result c.append_messages.ensures.answer)

pub returns-clause-accepted : goal.returns-clause-accepted
returns-clause-accepted c =
    let more = extension_of c.args.id c.args.version c.args.requests.items c.args.events.items in
    subst IsAcceptedTable (sym c.append_messages.ensures.table)
    (extension_accepted (interface_rows c.self.inside.interfaces.items) more c.self.invariant c.append_messages.result c.append_messages.ensures.answer)

pub returns-clause-names : goal.returns-clause-names
returns-clause-names c = λ n.
    let old = interface_rows c.self.inside.interfaces.items in
    let more = extension_of c.args.id c.args.version c.args.requests.items c.args.events.items in
    rw (← c.self.view_is)
    (subst (λ (table : List InterfaceRow). name_of table n ≡ name_of old n) (sym c.append_messages.ensures.table)
    (name_stays old more c.append_messages.result n))

pub returns-clause-requests : goal.returns-clause-requests
returns-clause-requests c = λ i opcode row.
    let old = interface_rows c.self.inside.interfaces.items in
    let more = extension_of c.args.id c.args.version c.args.requests.items c.args.events.items in
    rw (← c.self.view_is)
    (subst (λ (table : List InterfaceRow). request_row old i opcode ≡ Some row → request_row table i opcode ≡ Some row) (sym c.append_messages.ensures.table)
    (request_stays old more c.append_messages.result i opcode row))

pub returns-clause-events : goal.returns-clause-events
returns-clause-events c = λ i opcode row.
    let old = interface_rows c.self.inside.interfaces.items in
    let more = extension_of c.args.id c.args.version c.args.requests.items c.args.events.items in
    rw (← c.self.view_is)
    (subst (λ (table : List InterfaceRow). event_row old i opcode ≡ Some row → event_row table i opcode ≡ Some row) (sym c.append_messages.ensures.table)
    (event_stays old more c.append_messages.result i opcode row))

pub returns-clause-exact : goal.returns-clause-exact
returns-clause-exact c =
    let more = extension_of c.args.id c.args.version c.args.requests.items c.args.events.items in
    rw (← c.self.view_is) (extension_exact (interface_rows c.self.inside.interfaces.items) more c.append_messages.result c.append_messages.ensures.answer)

pub returns-clause-memory : goal.returns-clause-memory
returns-clause-memory c =
    let more = extension_of c.args.id c.args.version c.args.requests.items c.args.events.items in
    rw (← c.self.view_is) (extension_memory (interface_rows c.self.inside.interfaces.items) more c.self.invariant c.append_messages.result c.append_messages.ensures.answer)
