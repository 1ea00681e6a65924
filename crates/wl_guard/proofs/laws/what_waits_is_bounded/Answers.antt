use Rattle.wl_guard.proofs.Waiting.{waits_few}
use Rattle.wl_guard.proofs.laws.what_waits_is_bounded.Goals as goal

pub returns : goal.returns
returns c = waits_few
