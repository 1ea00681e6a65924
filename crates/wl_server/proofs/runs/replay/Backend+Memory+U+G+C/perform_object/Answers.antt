use Rattle.wl_server_model.proofs.CallSteps.OverScripts.{over_script}
use Rattle.wl_server.proofs.runs.replay.Backend+Memory+U+G+C.perform_object.Goals as goal

pub returns-in-SetObjectData : goal.returns-in-SetObjectData
returns-in-SetObjectData g c = rw c.in-SetObjectData.is (over_script g.G.GlobalHandler.views _ _ _ _ c.set_object_data.ensures.call)

pub returns-in-CreateObject : goal.returns-in-CreateObject
returns-in-CreateObject g c = rw c.in-CreateObject.is (over_script g.G.GlobalHandler.views _ _ _ _ c.create_object.ensures.call)

pub returns-in-DestroyObject : goal.returns-in-DestroyObject
returns-in-DestroyObject g c = rw c.in-DestroyObject.is (over_script g.G.GlobalHandler.views _ _ _ _ c.destroy_object.ensures.call)

pub returns-in-SendEvent : goal.returns-in-SendEvent
returns-in-SendEvent g c = rw c.in-SendEvent.is (over_script g.G.GlobalHandler.views _ _ _ _ c.send_event.ensures.call)

pub returns-in-PostError : goal.returns-in-PostError
returns-in-PostError g c = rw c.in-PostError.is (over_script g.G.GlobalHandler.views _ _ _ _ c.post_error.ensures.call)

pub returns-in-SetObjectVersion : goal.returns-in-SetObjectVersion
returns-in-SetObjectVersion g c = rw c.in-SetObjectVersion.is (over_script g.G.GlobalHandler.views _ _ _ _ c.set_object_version.ensures.call)

pub returns-in-CreateObjectAt : goal.returns-in-CreateObjectAt
returns-in-CreateObjectAt g c = rw c.in-CreateObjectAt.is (over_script g.G.GlobalHandler.views _ _ _ _ c.create_object_at-answer.ensures.call)
