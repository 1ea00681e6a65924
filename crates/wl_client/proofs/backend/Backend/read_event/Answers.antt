use Rattle.std.proofs.Common.{arith}
use Rattle.wl_client.specs.Inside.ReadingLoop.{with_event}
use Rattle.wl_client.proofs.Readings.{fault_ends, goes_on, none_is_left, some_ends, starts}
use Rattle.wl_client.proofs.backend.Backend.read_event.Goals as goal

pub loop-used-init : goal.loop-used-init
loop-used-init g c = record { inline = c.requires.inline; live = c.requires.live; leads = starts g.T.Transport.sends g.T.Transport.receives _ }

pub returns-in-Some : goal.returns-in-Some
returns-in-Some g c = some_ends g.T.Transport.sends g.T.Transport.receives _ _ _ c.loop-used.used (with_event c.in-Some.end c.handle_waiting.new.event) c.loop-used.auto.used-end c.loop-used.invariant.leads c.in-Some.ensures.waited

pub returns-in-Some-receive : goal.returns-in-Some-receive
returns-in-Some-receive g c =
    fault_ends g.T.Transport.sends g.T.Transport.receives _ _ _ c.loop-used.used c.loop-used.invariant.leads c.in_default.ensures.waited.0 c.in_default.ensures.waited.1 c.in_default.ensures.waited.2
    c.in-Some-receive.end _ c.loop-used-test.true c.in-Some-receive.ensures

pub loop-used-preserved : goal.loop-used-preserved
loop-used-preserved g c =
    let on = goes_on g.T.Transport.sends g.T.Transport.receives _ _ _ c.loop-used.used c.loop-used.invariant.leads c.in_default.ensures.waited.0 c.in_default.ensures.waited.1 c.in_default.ensures.waited.2 _ c.in_default-receive.ensures in
    record { inline = c.handle_waiting.ensures.inline; live = on.0; leads = on.1 }

pub returns-in-Some-handle_waiting : goal.returns-in-Some-handle_waiting
returns-in-Some-handle_waiting g c =
    some_ends g.T.Transport.sends g.T.Transport.receives _ _ _ c.loop-used.used (with_event c.in-Some-handle_waiting.end c.handle_waiting-2.new.event) c.loop-used.auto.used-end c.loop-used.invariant.leads c.in-Some-handle_waiting.ensures.waited

pub returns : goal.returns
returns g c =
    none_is_left g.T.Transport.sends g.T.Transport.receives _ _ _ c.loop-used.used c.loop-used.invariant.leads c.in_default-handle_waiting.ensures.waited.0
    c.in_default-handle_waiting.ensures.waited.1 c.in_default-handle_waiting.ensures.waited.2 (omega (arith, c.loop-used.auto.used-end, c.loop-used-test.false))
