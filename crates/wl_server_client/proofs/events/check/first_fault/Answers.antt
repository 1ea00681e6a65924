use Rattle.std.proofs.Common.{arith, length, ◌∙◌}
use Rattle.std.proofs.lemmas.Slice.Zip.{zip_end}
use Rattle.wl_wire.specs.Table.{message_row}
use Rattle.wl_link.specs.Refusals.{first_refusal}
use Rattle.wl_server_client.specs.Events.{argument_faults}
use Rattle.wl_server_client.proofs.ObjectCalls.EventFaults.{no_fault}
use Rattle.wl_server_client.proofs.events.check.first_fault.Goals as goal

pub returns : goal.returns
returns g c =
    let desc = c.args.desc.now in
    let args = c.args.args.now in
    let t = zip_end desc.signature.items args c.loop-kind.yielded c.into_iter-kind-iterator.result c.loop-kind.kind-iterator c.next.new.self c.next.result (cc) (cc) c.loop-kind.yielded_by c.in-None.is c.next.ensures.steps in
    ◌∙◌ {c = first_refusal (argument_faults c.args.client.now c.args.objects.now.store (message_row desc) desc.signature.items desc.arg_interfaces.items args)}
    (no_fault c.args.client.now c.args.objects.now.store (message_row desc) desc.signature.items c.loop-kind.asked.now args
    (length c.loop-kind.yielded) (λ short also. omega (arith, t)))
    c.loop-kind.invariant
