-- Both directions have what they had, unless an announcement was dropped or lowered; and the messages that were read have their lines.
use Rattle.std.proofs.Common.{length}
use Rattle.wl_link.specs.MailboxLink.{still_to_read, still_to_send}
use Rattle.wl_relay.specs.Flow.{KeptUnlessChanged}
use Rattle.wl_relay.specs.Inside.Passing.{KeepBoth, LeavesWayBack, ReadsOn}
use Rattle.wl_relay.specs.Log.{known}
use Rattle.wl_relay.proofs.follow.pass.Given as goal

abbrev pub invariant-loop-fault : goal.invariant-loop-fault
invariant-loop-fault l = record {
  kept : KeptUnlessChanged l.fn.notes.has_changed l.fn.from l.fn.to l.notes.has_changed l.from l.to;
  reads : ReadsOn l.table l.side (known l.fn.notes) (still_to_read l.fn.from) (still_to_send l.fn.to) (known l.notes) (still_to_read l.from) (still_to_send l.to);
  way_back : LeavesWayBack l.fn.from l.fn.to l.from l.to;
  settings : KeepBoth l.fn.from l.fn.to l.from l.to;
}

abbrev pub decreases-loop-fault : goal.decreases-loop-fault
decreases-loop-fault l = length l.from.incoming.bytes
