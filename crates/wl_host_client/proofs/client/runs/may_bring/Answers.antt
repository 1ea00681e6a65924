use Rattle.std.proofs.Common.{sym, ◌∙◌, ap, List, Option}
use Rattle.std.specs.List.{list_any}
use Rattle.wl_wire.specs.declared.interface.MessageDesc.{MessageDesc}
use Rattle.wl_wire.specs.Table.{InterfaceRow, message_row}
use Rattle.wl_host_client.specs.Runs.{brings_descriptors, events_of}
use Rattle.wl_host_client.proofs.Runs.{any_map}
use Rattle.wl_host_client.proofs.client.runs.may_bring.Goals as goal

-- what holds of the rows holds of the messages that they are of
pub returns-in-Some : goal.returns-in-Some
returns-in-Some c =
    c.any_brings.ensures
    ∙ ap (λ (ms : List MessageDesc). list_any (λ m. brings_descriptors (message_row m)) ms) c.deref.ensures.value
    ∙ sym (any_map brings_descriptors message_row c.in-Some.row.now.events.items)
    ∙ ap (λ (row : Option InterfaceRow). list_any brings_descriptors (events_of row)) c.in-Some.ensures.interface
