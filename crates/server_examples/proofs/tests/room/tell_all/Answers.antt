use Rattle.std.proofs.Common.{refl}
use Rattle.wl_server_model.proofs.Dispatches.Joining.{reached_then}
use Rattle.server_examples.proofs.tests.room.tell_all.Goals as goal

pub returns-in_err-send_event : goal.returns-in_err-send_event
returns-in_err-send_event c client = reached_then (c.loop-member.invariant client) c.send_event.ensures.call refl

pub loop-member-preserved : goal.loop-member-preserved
loop-member-preserved c client = reached_then (c.loop-member.invariant client) c.send_event.ensures.call refl
