use Rattle.wl_guard.proofs.Runs.{goes_through}
use Rattle.wl_guard.proofs.laws.all_goes_through_the_guard.Goals as goal

pub returns : goal.returns
returns c = goes_through
