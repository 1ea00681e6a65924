use Rattle.wl_guard.proofs.Runs.{nothing_follows}
use Rattle.wl_guard.proofs.laws.nothing_follows_an_end.Goals as goal

pub returns : goal.returns
returns c = nothing_follows
