use Rattle.wl_callers.proofs.Ended.{handed_out}
use Rattle.wl_callers.proofs.ending.disconnect.Goals as goal

pub returns-clause-stored : goal.returns-clause-stored
returns-clause-stored g c = handed_out _ _ _ _ _ _ _ c.kill_client.ensures.plain c.cleanup.ensures.plain
