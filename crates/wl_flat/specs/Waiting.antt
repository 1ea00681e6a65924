-- How much waits in a session, in its core and in its mailbox.
use Rattle.std.specs.Prelude.{◌+◌, length}
use Rattle.wl_link.specs.Exchange.{Queue}
use Rattle.wl_link.specs.Link.{LinkState}
use Rattle.wl_link.specs.Mailbox.{MailboxState}
use Rattle.wl_flat.specs.Sending.{counts_of}
use Rattle.wl_flat.specs.declared.flat.Counts.{Counts}
use Rattle.wl_flat.specs.declared.flat.Waiting.{Waiting}

-- how many bytes and descriptors there are in both
abbrev pub counts_in : Queue → Queue → Counts
counts_in a b = counts_of (length a.bytes + length b.bytes) (length a.tokens + length b.tokens)

-- what arrived waits in the mailbox first, and then in the core; what is to be sent, the other way round
abbrev pub waiting_on : LinkState MailboxState → Waiting
waiting_on l = record { received = counts_in l.incoming l.transport.arrived; to_send = counts_in l.outgoing l.transport.waiting }
