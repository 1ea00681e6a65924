use Rattle.std.proofs.Common.{refl, arith}
use Rattle.wl_callers.proofs.Handing.{as_many, left_open, no_event, starved, then_one}
use Rattle.wl_callers.proofs.proxy.hand_on.Goals as goal

pub returns-then-is_err : goal.returns-then-is_err
returns-then-is_err g c =
    starved g.T.Transport.sends g.T.Transport.receives _ _ _ _ _ _ _ _ c.loop-count.invariant c.reserve.ensures.items c.loop-count-test.true refl

pub returns-in-Err : goal.returns-in-Err
returns-in-Err g c =
    no_event g.T.Transport.sends g.T.Transport.receives _ _ _ _ _ _ _ _ c.loop-count.invariant c.reserve.ensures.items c.loop-count-test.true
    c.in-Err.error _ c.ended.ensures (_, c.in-Err.ensures.read)

pub returns-in-Err-finish_event : goal.returns-in-Err-finish_event
returns-in-Err-finish_event g c =
    left_open g.T.Transport.sends g.T.Transport.receives _ _ _ _ _ _ _ _ c.loop-count.invariant c.reserve.ensures.items c.loop-count-test.true
    c.in-Ok.event c.in-Err-finish_event._refused _ c.push_reserved.ensures.items
    (c.next_event.new.self.session, (_, c.in-Ok.ensures.read), c.in-Err-finish_event.ensures.finished)

pub loop-count-preserved : goal.loop-count-preserved
loop-count-preserved g c =
    then_one g.T.Transport.sends g.T.Transport.receives _ _ _ _ _ _ _ _ c.in-Ok.event c.loop-count.invariant c.reserve.ensures.items c.push_reserved.ensures.items
    (c.next_event.new.self.session, (_, c.in-Ok.ensures.read), c.in_default.ensures.finished)

pub returns : goal.returns
returns g c =
    as_many g.T.Transport.sends g.T.Transport.receives _ _ _ _ _ _ c.loop-count.invariant (omega (arith, c.loop-count-test.false, c.loop-count.auto._count-end))
