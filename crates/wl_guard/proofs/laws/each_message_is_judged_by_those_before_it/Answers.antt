use Rattle.wl_guard.proofs.Judged.{judged}
use Rattle.wl_guard.proofs.laws.each_message_is_judged_by_those_before_it.Goals as goal

pub returns : goal.returns
returns c = judged
