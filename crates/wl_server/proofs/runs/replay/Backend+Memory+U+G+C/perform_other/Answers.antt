use Rattle.wl_server_model.proofs.CallSteps.OverScripts.{over_script}
use Rattle.wl_server.proofs.runs.replay.Backend+Memory+U+G+C.perform_other.Goals as goal

pub returns-in-CreateGlobal : goal.returns-in-CreateGlobal
returns-in-CreateGlobal g c = rw c.in-CreateGlobal.is (over_script g.G.GlobalHandler.views _ _ _ _ c.create_global.ensures.call)

pub returns-in-DisableGlobal : goal.returns-in-DisableGlobal
returns-in-DisableGlobal g c = rw c.in-DisableGlobal.is (over_script g.G.GlobalHandler.views _ _ _ _ c.disable_global.ensures.call)

pub returns-in-RemoveGlobal : goal.returns-in-RemoveGlobal
returns-in-RemoveGlobal g c = rw c.in-RemoveGlobal.is (over_script g.G.GlobalHandler.views _ _ _ _ c.remove_global.ensures.call)

pub returns-in-KillClient : goal.returns-in-KillClient
returns-in-KillClient g c = rw c.in-KillClient.is (over_script g.G.GlobalHandler.views _ _ _ _ c.kill_client.ensures.call)

pub returns-in-SetClientMaxBufferSize : goal.returns-in-SetClientMaxBufferSize
returns-in-SetClientMaxBufferSize g c =
    rw c.in-SetClientMaxBufferSize.is (over_script g.G.GlobalHandler.views _ _ _ _ c.set_client_max_buffer_size.ensures.call)
