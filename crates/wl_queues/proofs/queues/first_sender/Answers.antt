use Rattle.std.proofs.Common.{◌<◌, length, refl, arith}
use Rattle.wl_queues.proofs.Lists.{first-there}
use Rattle.wl_queues.proofs.queues.first_sender.Goals as goal

pub returns-clause-sender : goal.returns-clause-sender
returns-clause-sender g c =
    let events = c.args.queue.now.events in
    let e = c.in_ok-front.field-0.now in
    let some : 0 < length events.items = omega (arith, c.in_ok-front.ensures.variant.0 refl, events.ok.0) in
    let first = first-there events.items e some c.in_ok-front.ensures.lookup in
    (e, first.0, first.1, refl)
