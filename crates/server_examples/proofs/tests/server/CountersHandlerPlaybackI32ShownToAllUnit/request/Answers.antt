use Rattle.std.proofs.Common.{refl}
use Rattle.wl_server_model.proofs.Dispatches.Joining.{reached_by, reached_then}
use Rattle.server_examples.proofs.tests.server.CountersHandlerPlaybackI32ShownToAllUnit.request.Goals as goal

pub returns-clause-reached : goal.returns-clause-reached
returns-clause-reached c = reached_then (reached_by c.set_object_data.ensures.call refl) c.send_event.ensures.call refl
