use Rattle.std.proofs.Common.{◌∙◌, ap, sym}
use Rattle.wl_host.proofs.Conserving.{conserves_sent}
use Rattle.wl_host.proofs.Lending.{asked_no, asked_yes, sent_stored, sent_to, sent_unstored}
use Rattle.wl_host.specs.Seats.{listed}
use Rattle.wl_host.proofs.server.Server.take_off.Goals as goal

pub returns-in-Err-clause-sent : goal.returns-in-Err-clause-sent
returns-in-Err-clause-sent c =
    rw (← c.self.view_is) (sent_to _ _ c.id-id.result _ _ _ c.id-id.ensures.id
    (sent_unstored _ c.id-id.result c.args.count c.from.result c.in-Some.ledger.now (sym c.in-Some.ensures.value) c.in-Err.ensures.value c.from.ensures))

pub returns-in-Err-clause-descriptors : goal.returns-in-Err-clause-descriptors
returns-in-Err-clause-descriptors c = conserves_sent _ _ _ _ _ (returns-in-Err-clause-sent c)

pub returns-then-is_empty-clause-descriptors : goal.returns-then-is_empty-clause-descriptors
returns-then-is_empty-clause-descriptors c =
    let off = c.take_off-is_empty in
    rw (← c.self.view_is) (conserves_sent _ _ _ _ _ (sent_to _ _ c.id-id.result _ _ _ c.id-id.ensures.id
    (sent_stored _ c.id-id.result c.args.count c.in-Some.ledger.now off.new.self c.in-Ok.mailbox.now off.new.mailbox c.list.new.self
    (sym c.in-Some.ensures.value) c.in-Ok.ensures.value off.ensures.mailbox off.ensures.ledger
    (c.list.ensures ∙ (ap (listed _) c.slot.ensures ∙ sym (asked_yes _ _ off.new.mailbox (sym off.ensures.empty ∙ c.if-is_empty.true)))))))

pub returns-else-is_empty-clause-descriptors : goal.returns-else-is_empty-clause-descriptors
returns-else-is_empty-clause-descriptors c =
    let off = c.take_off-is_empty in
    rw (← c.self.view_is) (conserves_sent _ _ _ _ _ (sent_to _ _ c.id-id.result _ _ _ c.id-id.ensures.id
    (sent_stored _ c.id-id.result c.args.count c.in-Some.ledger.now off.new.self c.in-Ok.mailbox.now off.new.mailbox _
    (sym c.in-Some.ensures.value) c.in-Ok.ensures.value off.ensures.mailbox off.ensures.ledger
    (sym (asked_no _ _ off.new.mailbox (sym off.ensures.empty ∙ c.if-is_empty.false))))))
