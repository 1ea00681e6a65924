use Rattle.std.proofs.Common.{refl}
use Rattle.wl_server_model.proofs.Dispatches.Joining.{reached_by, reached_then}
use Rattle.server_tests.proofs.tests.handlers.TakingOutHandlerMemoryU32ShownBool.bind.Goals as goal

pub returns-clause-reached : goal.returns-clause-reached
returns-clause-reached g = reached_then (reached_by g.kill_client.ensures.call refl) g.cleanup.ensures.call refl
