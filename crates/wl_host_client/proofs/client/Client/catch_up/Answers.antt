use Rattle.std.proofs.Common.{ℕ, List, ap, get_or, length, ◌∙◌}
use Rattle.wl_link.specs.Mailbox.{MailboxState}
use Rattle.wl_host_client.proofs.ClientCatching.{catches_counted, counted_unread}
use Rattle.wl_host_client.specs.contracts.client.Client.{the_view}
use Rattle.wl_host_client.proofs.client.Client.catch_up.Goals as goal

pub returns-clause-caught : goal.returns-clause-caught
returns-clause-caught c =
    let s = the_view c.self.inside in
    let unread = counted_unread s (get_or c.waiting.result 0 0) c.bytes_left.result c.saturating_add-unread.result
    (ap (λ (xs : List ℕ). get_or xs 0 0) c.waiting.ensures) (c.bytes_left.ensures ∙ ap (λ (m : MailboxState). length m.arrived.bytes) c.transport.ensures)
    c.saturating_add-unread.ensures in
    rw (← c.self.view_is) (catches_counted s _ _ c.catch_up.result c.catch_up.new.self unread c.transport-2.ensures c.catch_up.ensures)
