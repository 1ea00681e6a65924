use Rattle.std.proofs.Common.{◌≡◌, length, drop}
use Rattle.wl_wire.specs.Table.{message_row}
use Rattle.wl_link.specs.Refusals.{first_refusal}
use Rattle.wl_server_client.specs.Events.{argument_faults}
use Rattle.wl_server_client.proofs.events.check.first_fault.Given as goal

abbrev pub invariant-loop-kind : goal.invariant-loop-kind
invariant-loop-kind g l =
    let faults = argument_faults l.client l.objects.store (message_row l.desc) in
    first_refusal (faults (drop (length l.yielded) l.desc.signature.items) l.asked (drop (length l.yielded) l.args))
    ≡ first_refusal (faults l.desc.signature.items l.desc.arg_interfaces.items l.args)
