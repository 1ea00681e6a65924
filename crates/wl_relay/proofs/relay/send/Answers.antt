-- That bytes were to be sent if what is ready cannot be taken out.
use Rattle.std.proofs.Common.{[], ap, arith, length, rules, ◌≡◌, ◌≢◌, ◌<◌}
use Rattle.wl_link.specs.Link.{LinkState}
use Rattle.wl_link.specs.Mailbox.{MailboxState}
use Rattle.wl_link.specs.MailboxLink.{still_to_send}
use Rattle.wl_relay.proofs.Flows.{nothing_before, on_err_of}
use Rattle.wl_relay.proofs.relay.send.Goals as goal

pub returns-in_err-take_out-clause-memory : goal.returns-in_err-take_out-clause-memory
returns-in_err-take_out-clause-memory c =
    let before = c.args.link.now in
    let some : 0 < length c.make_ready.new.link.transport.waiting.bytes = search rules in
    on_err_of _ ((still_to_send before).bytes ≢ [])
    (λ none. omega (
      arith,
      some,
      ap (λ (l : LinkState MailboxState). length l.transport.waiting.bytes) (c.in_ok-make_ready.ensures.none none),
      ap length (nothing_before before.transport.waiting.bytes before.outgoing.bytes none),
    ))
