use Rattle.std.proofs.Common.{refl}
use Rattle.wl_server_model.proofs.Dispatches.Joining.{reached_by, reached_then}
use Rattle.server_tests.proofs.tests.handlers.WorkingHandlerMemoryU32ShownBool.bind.Goals as goal

pub returns-clause-reached : goal.returns-clause-reached
returns-clause-reached g =
    let told = reached_then (reached_by g.send_event.ensures.call refl) g.send_event-2.ensures.call refl in
    let made = reached_then (reached_then told g.create_object.ensures.call refl) g.create_object-2.ensures.call refl in
    reached_then (reached_then made g.destroy_object.ensures.call refl) g.destroy_object-2.ensures.call refl
