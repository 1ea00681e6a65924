-- That nothing is read of an empty mailbox, and that a full buffer is handed on as it is.
use Rattle.std.proofs.Common.{subst}
use Rattle.wl_link.specs.MailboxLink.{still_to_send}
use Rattle.wl_relay.specs.Inside.Passing.{ReceivedAs}
use Rattle.wl_relay.specs.Log.{known}
use Rattle.wl_relay.specs.declared.follow.Received.{Received}
use Rattle.wl_relay.specs.declared.follow.Received.TheVariants as received
use Rattle.wl_relay.proofs.Lines.{full_grows, grows_nothing_as, received_grows}
use Rattle.wl_relay.proofs.follow.receive_once.Goals as goal

pub returns-in-All-clause-logged : goal.returns-in-All-clause-logged
returns-in-All-clause-logged c =
    let all : ReceivedAs c.args.from.now received.All c.fill.new.from
    = subst (λ (r : Received). ReceivedAs c.args.from.now r c.fill.new.from) c.in-All.is c.in_ok-fill.ensures.received in
    grows_nothing_as c.args.table.now c.args.side (known c.args.notes.now) c.args.from.now c.fill.new.from (still_to_send c.args.to.now) all.0

pub returns-in_ok-give_up-in-Full-clause-logged : goal.returns-in_ok-give_up-in-Full-clause-logged
returns-in_ok-give_up-in-Full-clause-logged c =
    let full : ReceivedAs c.args.from.now received.Full c.fill.new.from
    = subst (λ (r : Received). ReceivedAs c.args.from.now r c.fill.new.from) c.in-Full.is c.in_ok-fill.ensures.received in
    full_grows c.args.table.now c.args.side (known c.args.notes.now) (known c.give_up.new.notes) c.args.from.now c.fill.new.from c.give_up.new.from
    c.args.to.now c.give_up.new.to c.requires.done full.0 full.2 c.fill.ensures.same full.1 c.in_ok-give_up-in-Full.ensures.told c.in_ok-give_up-in-Full.ensures.handed

pub returns-in_ok-follow-in-Some-clause-logged : goal.returns-in_ok-follow-in-Some-clause-logged
returns-in_ok-follow-in-Some-clause-logged c =
    let some : ReceivedAs c.args.from.now received.Some c.fill.new.from
    = subst (λ (r : Received). ReceivedAs c.args.from.now r c.fill.new.from) c.in-Some.is c.in_ok-fill.ensures.received in
    received_grows c.args.table.now c.args.side (known c.args.notes.now) (known c.follow.new.notes) c.args.from.now c.fill.new.from c.follow.new.from
    (still_to_send c.args.to.now) (still_to_send c.follow.new.to) some.1 c.fill.ensures.same c.in_ok-follow-in-Some.ensures.logged
