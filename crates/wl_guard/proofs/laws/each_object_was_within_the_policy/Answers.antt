use Rattle.wl_guard.proofs.Within.{were_within}
use Rattle.wl_guard.proofs.laws.each_object_was_within_the_policy.Goals as goal

pub returns : goal.returns
returns c = were_within
