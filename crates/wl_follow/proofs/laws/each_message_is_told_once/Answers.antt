use Rattle.wl_follow.proofs.Runs.{told_once}
use Rattle.wl_follow.proofs.laws.each_message_is_told_once.Goals as goal

pub returns : goal.returns
returns c = told_once
