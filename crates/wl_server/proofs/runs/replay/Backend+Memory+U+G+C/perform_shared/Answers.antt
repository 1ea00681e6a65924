use Rattle.wl_server_model.proofs.CallSteps.OverScripts.{over_script}
use Rattle.wl_server.proofs.runs.replay.Backend+Memory+U+G+C.perform_shared.Goals as goal

pub returns-in-InsertClient : goal.returns-in-InsertClient
returns-in-InsertClient g c = rw c.in-InsertClient.is (over_script g.G.GlobalHandler.views _ _ _ _ c.insert_client.ensures.call)

pub returns-in-Flush : goal.returns-in-Flush
returns-in-Flush g c = rw c.in-Flush.is (over_script g.G.GlobalHandler.views _ _ _ _ c.flush.ensures.call)

pub returns-in-SetDefaultMaxBufferSize : goal.returns-in-SetDefaultMaxBufferSize
returns-in-SetDefaultMaxBufferSize g c =
    rw c.in-SetDefaultMaxBufferSize.is (over_script g.G.GlobalHandler.views _ _ _ _ c.set_default_max_buffer_size.ensures.call)

pub returns-in-Cleanup : goal.returns-in-Cleanup
returns-in-Cleanup g c = rw c.in-Cleanup.is (over_script g.G.GlobalHandler.views _ _ _ _ c.cleanup.ensures.call)

pub returns-in-TakeNotes : goal.returns-in-TakeNotes
returns-in-TakeNotes g c = rw c.in-TakeNotes.is (over_script g.G.GlobalHandler.views _ _ _ _ c.take_notes.ensures.call)

pub returns-in-KeepGlobalNames : goal.returns-in-KeepGlobalNames
returns-in-KeepGlobalNames g c =
    rw c.in-KeepGlobalNames.is (over_script g.G.GlobalHandler.views _ _ _ _ c.keep_global_names.ensures.call)

pub returns-in-SetObjectLimit : goal.returns-in-SetObjectLimit
returns-in-SetObjectLimit g c = rw c.in-SetObjectLimit.is (over_script g.G.GlobalHandler.views _ _ _ _ c.set_object_limit.ensures.call)

pub returns-in-HandOutRegistries : goal.returns-in-HandOutRegistries
returns-in-HandOutRegistries g c =
    rw c.in-HandOutRegistries.is (over_script g.G.GlobalHandler.views _ _ _ _ c.hand_out_registries.ensures.call)
