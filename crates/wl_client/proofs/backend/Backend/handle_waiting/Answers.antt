use Rattle.wl_client.proofs.Readings.{end_ends, event_ends, lacks_waits, on_more, shorter}
use Rattle.wl_client.proofs.backend.Backend.handle_waiting.Goals as goal

pub loop-end-preserved : goal.loop-end-preserved
loop-end-preserved g c =
    let on = on_more g.T.Transport.sends g.T.Transport.receives _ _ _ c.loop-end.invariant.live c.loop-end.invariant.leads c.in-Continues.ensures.handles in
    record { inline = c.handle_message.ensures.inline; live = on.0; leads = on.1 }

pub returns-in-Event-clause-waited : goal.returns-in-Event-clause-waited
returns-in-Event-clause-waited g c = event_ends g.T.Transport.sends g.T.Transport.receives _ _ _ c.handle_message.new.event c.loop-end.invariant.live c.loop-end.invariant.leads c.in-Event.ensures.handles

pub returns-in-Ends-clause-waited : goal.returns-in-Ends-clause-waited
returns-in-Ends-clause-waited g c = end_ends g.T.Transport.sends g.T.Transport.receives _ _ _ c.in-Ends.end c.loop-end.invariant.live c.loop-end.invariant.leads c.in-Ends.ensures.handles

pub loop-end-smaller : goal.loop-end-smaller
loop-end-smaller g c = shorter g.T.Transport.sends g.T.Transport.receives _ _ c.in-Continues.ensures.handles

pub returns-in-Lacks-clause-waited : goal.returns-in-Lacks-clause-waited
returns-in-Lacks-clause-waited g c = lacks_waits g.T.Transport.sends g.T.Transport.receives _ _ _ c.loop-end.invariant.live c.loop-end.invariant.leads c.in-Lacks.ensures.handles
