use Rattle.std.proofs.Common.{◌∙◌, arith}
use Rattle.std.proofs.lemmas.Grind.{common_steps}
use Rattle.wl_server_client.proofs.CallSteps.Numbers.{in_time_both, in_time_none}
use Rattle.wl_server_client.proofs.Readings.OneMessage.{goes_ends, goes_goes, goes_none}
use Rattle.wl_server_client.proofs.client.Client.handle_waiting.Goals as goal

pub loop-end-init : goal.loop-end-init
loop-end-init g c = grind (arith, common_steps, goes_none, in_time_none)

pub loop-end-preserved : goal.loop-end-preserved
loop-end-preserved g c = record {
  place = c.handle_message.ensures.place;
  left = c.in-Continues.ensures.handles.1 ∙ c.loop-end.invariant.left;
  goes = goes_goes _ _ _ _ _ _ _ _ _ c.loop-end.invariant.goes c.in-Continues.ensures.handles.0;
  in_time = in_time_both _ _ _ _ _ _ c.loop-end.invariant.in_time c.handle_message.ensures.in_time;
  numbered = λ is. c.handle_message.ensures.numbered (c.loop-end.invariant.numbered is);
}

pub returns-in-HandsOut-clause-waited : goal.returns-in-HandsOut-clause-waited
returns-in-HandsOut-clause-waited g c = goes_ends _ _ _ _ _ _ _ _ _ _ c.loop-end.invariant.goes c.in-HandsOut.ensures.handles

pub returns-in-Ends-clause-waited : goal.returns-in-Ends-clause-waited
returns-in-Ends-clause-waited g c = goes_ends _ _ _ _ _ _ _ _ _ _ c.loop-end.invariant.goes c.in-Ends.ensures.handles

pub returns-in-Lacks-clause-in_time : goal.returns-in-Lacks-clause-in_time
returns-in-Lacks-clause-in_time g c = in_time_both _ _ _ _ _ _ c.loop-end.invariant.in_time c.handle_message.ensures.in_time

pub returns-in-HandsOut-clause-in_time : goal.returns-in-HandsOut-clause-in_time
returns-in-HandsOut-clause-in_time g c = in_time_both _ _ _ _ _ _ c.loop-end.invariant.in_time c.handle_message.ensures.in_time

pub returns-in-Ends-clause-in_time : goal.returns-in-Ends-clause-in_time
returns-in-Ends-clause-in_time g c = in_time_both _ _ _ _ _ _ c.loop-end.invariant.in_time c.handle_message.ensures.in_time
