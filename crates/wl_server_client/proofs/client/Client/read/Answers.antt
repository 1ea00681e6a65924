use Rattle.std.proofs.Common.{◌≡◌, ◌-◌, suc, arith, refl}
use Rattle.std.proofs.lemmas.Grind.{common_steps}
use Rattle.wl_server_client.proofs.CallSteps.Numbers.{in_time_both, in_time_none}
use Rattle.wl_server_client.proofs.Readings.OneMessage.{fills_ends, fills_goes, goes_ends, goes_goes, goes_none, goes_within, none_left}
use Rattle.wl_server_client.proofs.client.Client.read.Goals as goal

pub loop-end-init : goal.loop-end-init
loop-end-init g c = grind (arith, common_steps, goes_none, in_time_none)

pub returns-in-Some-clause-ends : goal.returns-in-Some-clause-ends
returns-in-Some-clause-ends g c = goes_ends _ _ _ _ _ _ _ _ _ _ c.loop-end.invariant.goes c.in-Some.ensures.waited

pub returns-then-reading-eq0-clause-ends : goal.returns-then-reading-eq0-clause-ends
returns-then-reading-eq0-clause-ends g c =
    let waited = c.in_default.ensures.waited in
    let so = goes_goes _ _ _ _ _ _ _ _ _ c.loop-end.invariant.goes waited.0 in
    goes_ends _ _ _ _ _ _ _ _ _ _ so (none_left _ _ _ _ _ waited.0.live (goes_within _ _ _ _ _ _ _ so) waited.2 c.if-reading-eq0.true)

pub returns-in-Some-receive-clause-ends : goal.returns-in-Some-receive-clause-ends
returns-in-Some-receive-clause-ends g c =
    let waited = c.in_default.ensures.waited in
    let left : c.handle_waiting.new.reading.turns_left ≡ suc (c.handle_waiting.new.reading.turns_left - 1) = omega (arith, c.if-reading-eq0.false) in
    let so = goes_goes _ _ _ _ _ _ _ _ _ c.loop-end.invariant.goes waited.0 in
    goes_ends _ _ _ _ _ _ _ _ _ _ so (fills_ends _ _ _ _ _ _ waited.0.live (goes_within _ _ _ _ _ _ _ so) waited.2 left refl c.in-Some-receive.end
    c.receive.new.self c.in-Some-receive.ensures.fills)

pub loop-end-preserved : goal.loop-end-preserved
loop-end-preserved g c =
    let waited = c.in_default.ensures.waited in
    let left : c.handle_waiting.new.reading.turns_left ≡ suc (c.handle_waiting.new.reading.turns_left - 1) = omega (arith, c.if-reading-eq0.false) in
    let so = goes_goes _ _ _ _ _ _ _ _ _ c.loop-end.invariant.goes waited.0 in
    record {
      place = c.handle_waiting.ensures.place;
      goes = goes_goes _ _ _ _ _ _ _ _ _ so
          (fills_goes _ _ _ _ _ _ waited.0.live (goes_within _ _ _ _ _ _ _ so) waited.2 left refl c.receive.new.self
          c.in_default-receive.ensures.fills);
      in_time =
          in_time_both _ _ _ _ _ _ (in_time_both _ _ _ _ _ _ c.loop-end.invariant.in_time c.handle_waiting.ensures.in_time) c.receive.ensures.in_time;
      numbered = λ is. c.receive.ensures.numbered (c.handle_waiting.ensures.numbered (c.loop-end.invariant.numbered is));
    }

pub returns-in-Some-clause-in_time : goal.returns-in-Some-clause-in_time
returns-in-Some-clause-in_time g c = in_time_both _ _ _ _ _ _ c.loop-end.invariant.in_time c.handle_waiting.ensures.in_time

pub returns-then-reading-eq0-clause-in_time : goal.returns-then-reading-eq0-clause-in_time
returns-then-reading-eq0-clause-in_time g c = in_time_both _ _ _ _ _ _ c.loop-end.invariant.in_time c.handle_waiting.ensures.in_time

pub returns-in-Some-receive-clause-in_time : goal.returns-in-Some-receive-clause-in_time
returns-in-Some-receive-clause-in_time g c =
    in_time_both _ _ _ _ _ _ (in_time_both _ _ _ _ _ _ c.loop-end.invariant.in_time c.handle_waiting.ensures.in_time) c.receive.ensures.in_time
