-- That the log grows by the lines of what is read after each receive.
use Rattle.std.proofs.Common.{rules, ◌∙◌}
use Rattle.wl_link.specs.MailboxLink.{still_to_read, still_to_send}
use Rattle.wl_relay.specs.Log.{known}
use Rattle.wl_relay.proofs.Lines.{grows_after}
use Rattle.wl_relay.proofs.Settings.{keep_after}
use Rattle.wl_relay.proofs.follow.receive.Goals as goal

pub loop-preserved : goal.loop-preserved
loop-preserved c =
    let back = c.in_ok-receive_once.ensures.way_back in
    let before = c.loop.invariant.way_back in record {
      kept = search rules;
      logged = grows_after c.args.table.now c.args.side (known c.args.notes.now) (known c.loop.notes) (known c.receive_once.new.notes)
          (still_to_read c.args.from.now) (still_to_read c.loop.from) (still_to_read c.receive_once.new.from)
          c.args.from.now.transport.arrived c.loop.from.transport.arrived c.receive_once.new.from.transport.arrived
          (still_to_send c.args.to.now) (still_to_send c.loop.to) (still_to_send c.receive_once.new.to)
          c.loop.invariant.logged c.in_ok-receive_once.ensures.logged;
      done = c.in_ok-receive_once.ensures.done;
      way_back = (back.0 ∙ before.0, back.1 ∙ before.1);
      settings = keep_after c.args.from.now c.loop.from c.receive_once.new.from c.args.to.now c.loop.to c.receive_once.new.to
          c.loop.invariant.settings c.receive_once.ensures.settings;
    }

pub returns-clause-logged : goal.returns-clause-logged
returns-clause-logged c =
    grows_after c.args.table.now c.args.side (known c.args.notes.now) (known c.loop.notes) (known c.receive_once.new.notes)
    (still_to_read c.args.from.now) (still_to_read c.loop.from) (still_to_read c.receive_once.new.from)
    c.args.from.now.transport.arrived c.loop.from.transport.arrived c.receive_once.new.from.transport.arrived
    (still_to_send c.args.to.now) (still_to_send c.loop.to) (still_to_send c.receive_once.new.to)
    c.loop.invariant.logged c.in_ok-receive_once.ensures.logged
