use Rattle.std.proofs.Common.{refl}
use Rattle.wl_server_client.specs.declared.reading.response.Response.TheVariants as response
use Rattle.wl_server_client.specs.Inside.ReadingLoop.{around_of, found_with}
use Rattle.wl_server_client.proofs.CallSteps.Numbers.{in_time_none}
use Rattle.wl_server_client.proofs.Readings.Handling.{handed_out}
use Rattle.wl_server_client.proofs.Readings.OneMessage.{message_taken}
use Rattle.wl_server_client.proofs.client.Client.take_and_handle.Goals as goal

pub returns-in-Syncs-clause-handles : goal.returns-in-Syncs-clause-handles
returns-in-Syncs-clause-handles g c = rw (← c.self.view_is)
    (message_taken g.T.Transport.sends g.T.Transport.receives (around_of g.G.GlobalHandler.views c.args.around.now) c.args.front.now _ c.args.reading.now _ c.take_request-taken.new.socket
    c.self.inside.objects c.take_request-taken.new.objects
    (response.Syncs c.in-Syncs.callback) c.take_request-taken.new.finding.found c.take_request-taken.new.finding.args.items _ _
    (rw (← c.self.view_is) at c.requires.live) refl (rw c.in-Syncs.is at c.in-Ok.ensures.took) (c.tell_done.ensures.handled (found_with c.take_request-taken.new.finding.found c.take_request-taken.new.finding.args.items)) c.in-Ok.ensures.fewer refl c.saturating_add-reading.ensures)

pub returns-in-HandsOut-clause-handles : goal.returns-in-HandsOut-clause-handles
returns-in-HandsOut-clause-handles g c = rw (← c.self.view_is, c.open_action.ensures)
    (message_taken g.T.Transport.sends g.T.Transport.receives (around_of g.G.GlobalHandler.views c.args.around.now) c.args.front.now _ c.args.reading.now _ c.take_request-taken.new.socket
    c.self.inside.objects c.take_request-taken.new.objects response.HandsOut c.take_request-taken.new.finding.found c.take_request-taken.new.finding.args.items _ _
    (rw (← c.self.view_is) at c.requires.live) refl (rw c.in-HandsOut.is at c.in-Ok.ensures.took) (handed_out g.T.Transport.sends _ _ _) c.in-Ok.ensures.fewer refl c.saturating_add-reading.ensures)

-- any other
pub returns-in_default-clause-handles : goal.returns-in_default-clause-handles
returns-in_default-clause-handles g c = rw (← c.self.view_is)
    (message_taken g.T.Transport.sends g.T.Transport.receives (around_of g.G.GlobalHandler.views c.args.around.now) c.args.front.now _ c.args.reading.now _ c.take_request-taken.new.socket
    c.self.inside.objects c.take_request-taken.new.objects c.in-Ok.response c.take_request-taken.new.finding.found c.take_request-taken.new.finding.args.items _ _
    (rw (← c.self.view_is) at c.requires.live) refl c.in-Ok.ensures.took (c.respond.ensures.handled c.take_request-taken.new.finding.found c.take_request-taken.new.finding.args.items (found_with c.take_request-taken.new.finding.found c.take_request-taken.new.finding.args.items)) c.in-Ok.ensures.fewer refl c.saturating_add-reading.ensures)

pub returns-in-HandsOut-clause-in_time : goal.returns-in-HandsOut-clause-in_time
returns-in-HandsOut-clause-in_time g c = rw (← c.self.view_is) (in_time_none _ _)
