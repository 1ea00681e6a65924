use Rattle.wl_server_model.proofs.CallSteps.OverScripts.{over_script}
use Rattle.wl_server.proofs.runs.replay.Backend+Memory+U+G+C.perform_reading.Goals as goal

pub returns-in-NextAction : goal.returns-in-NextAction
returns-in-NextAction g c = rw c.in-NextAction.is (over_script g.G.GlobalHandler.views _ _ _ _ c.next_action.ensures.call)

pub returns-in-NextActionWithin : goal.returns-in-NextActionWithin
returns-in-NextActionWithin g c = rw c.in-NextActionWithin.is (over_script g.G.GlobalHandler.views _ _ _ _ c.next_action_within-answer.ensures.call)

pub returns-in-FinishRequest : goal.returns-in-FinishRequest
returns-in-FinishRequest g c = rw c.in-FinishRequest.is (over_script g.G.GlobalHandler.views _ _ _ _ c.finish_request.ensures.call)

pub returns-in-FinishBind : goal.returns-in-FinishBind
returns-in-FinishBind g c = rw c.in-FinishBind.is (over_script g.G.GlobalHandler.views _ _ _ _ c.finish_bind.ensures.call)
