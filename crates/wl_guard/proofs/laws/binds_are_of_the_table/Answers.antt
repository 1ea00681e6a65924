use Rattle.wl_guard.proofs.Sound.{bound_there}
use Rattle.wl_guard.proofs.laws.binds_are_of_the_table.Goals as goal

pub returns : goal.returns
returns c = bound_there
