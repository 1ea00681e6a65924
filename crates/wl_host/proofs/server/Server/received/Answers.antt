use Rattle.std.proofs.Common.{sym}
use Rattle.wl_host.proofs.Conserving.{conserves_received}
use Rattle.wl_host.proofs.Lending.{received_by, received_from, received_unstored}
use Rattle.wl_host.proofs.server.Server.received.Goals as goal

pub returns-in_default-transport_mut-clause-arrived : goal.returns-in_default-transport_mut-clause-arrived
returns-in_default-transport_mut-clause-arrived c =
    rw (← c.self.view_is) (received_from _ _ c.id-id.result _ _ _ _ c.id-id.ensures.id
    (received_unstored _ c.id-id.result c.args.bytes.now c.args.descriptors.now c.in-Some.ledger.now (sym c.in-Some.ensures.value) c.in_default-transport_mut.ensures.value))

pub returns-in_default-transport_mut-clause-descriptors : goal.returns-in_default-transport_mut-clause-descriptors
returns-in_default-transport_mut-clause-descriptors c = conserves_received _ _ _ c.args.bytes.now c.args.descriptors.now _ (returns-in_default-transport_mut-clause-arrived c)

pub returns-clause-arrived : goal.returns-clause-arrived
returns-clause-arrived c =
    rw (← c.self.view_is) (received_from _ _ c.id-id.result _ _ _ _ c.id-id.ensures.id
    (received_by _ c.id-id.result c.args.bytes.now c.args.descriptors.now c.take_in.result c.in-Some.ledger.now c.take_in.new.self c.in-Ok.mailbox.now c.take_in.new.mailbox
    (sym c.in-Some.ensures.value) c.in-Ok.ensures.value c.take_in.ensures))

pub returns-clause-descriptors : goal.returns-clause-descriptors
returns-clause-descriptors c = conserves_received _ _ _ c.args.bytes.now c.args.descriptors.now _ (returns-clause-arrived c)
