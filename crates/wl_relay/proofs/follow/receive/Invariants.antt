-- Both directions have what they had, unless an announcement was dropped or lowered; the log has grown by the lines of what was read,
-- and of what was received nothing more can be done.
use Rattle.wl_link.specs.MailboxLink.{still_to_read, still_to_send}
use Rattle.wl_relay.specs.Flow.{KeptUnlessChanged}
use Rattle.wl_relay.specs.Inside.Passing.{KeepBoth, KeepsWayBack, turns_left}
use Rattle.wl_relay.specs.Log.{GrowsLog, IsDone, known}
use Rattle.wl_relay.proofs.follow.receive.Given as goal

abbrev pub invariant-loop : goal.invariant-loop
invariant-loop l = record {
  kept : KeptUnlessChanged l.fn.notes.has_changed l.fn.from l.fn.to l.notes.has_changed l.from l.to;
  logged : GrowsLog l.table l.side (known l.fn.notes) (still_to_read l.fn.from) l.fn.from.transport.arrived (still_to_send l.fn.to)
      (known l.notes) (still_to_read l.from) l.from.transport.arrived (still_to_send l.to);
  done : IsDone l.table l.side (known l.notes) l.from.incoming;
  way_back : KeepsWayBack l.fn.from l.fn.to l.from l.to;
  settings : KeepBoth l.fn.from l.fn.to l.from l.to;
}

abbrev pub decreases-loop : goal.decreases-loop
decreases-loop l = turns_left l.side (known l.notes) l.from
