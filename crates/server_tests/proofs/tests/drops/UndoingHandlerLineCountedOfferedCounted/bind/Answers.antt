use Rattle.std.proofs.Common.{refl}
use Rattle.wl_server_model.proofs.Dispatches.Joining.{reached_by}
use Rattle.server_tests.proofs.tests.drops.UndoingHandlerLineCountedOfferedCounted.bind.Goals as goal

pub returns-clause-reached : goal.returns-clause-reached
returns-clause-reached g = reached_by g.destroy_object.ensures.call refl
