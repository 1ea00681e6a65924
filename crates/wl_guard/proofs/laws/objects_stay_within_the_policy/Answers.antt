use Rattle.wl_guard.proofs.Kept.{stay_within}
use Rattle.wl_guard.proofs.laws.objects_stay_within_the_policy.Goals as goal

pub returns : goal.returns
returns c = stay_within
