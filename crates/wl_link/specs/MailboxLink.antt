-- What a link over a mailbox keeps: what it receives and what it sends stay the same, from the link to its mailbox.
use Rattle.std.specs.Prelude.{◌≡◌}
use Rattle.wl_link.specs.Exchange.{Queue, joined}
use Rattle.wl_link.specs.Link.{LinkState}
use Rattle.wl_link.specs.Mailbox.{MailboxState}

-- what came and was not read: received, or still in the mailbox
abbrev pub still_to_read : LinkState MailboxState → Queue
still_to_read l = joined l.incoming l.transport.arrived

-- what was written and not taken out by the host: sent into the mailbox, or still to be sent
abbrev pub still_to_send : LinkState MailboxState → Queue
still_to_send l = joined l.transport.waiting l.outgoing

-- a receive moves what came, and touches nothing that is to be sent
abbrev pub KeepsWhatCame : LinkState MailboxState → LinkState MailboxState → Type 0
KeepsWhatCame before after =
    (still_to_read after ≡ still_to_read before) × (after.outgoing ≡ before.outgoing) × (after.transport.waiting ≡ before.transport.waiting)

-- a flush moves what is to be sent, and touches nothing that came
abbrev pub KeepsWhatGoes : LinkState MailboxState → LinkState MailboxState → Type 0
KeepsWhatGoes before after =
    (still_to_send after ≡ still_to_send before) × (after.incoming ≡ before.incoming) × (after.transport.arrived ≡ before.transport.arrived)
