use Rattle.wl_follow.proofs.Runs.{turns_come}
use Rattle.wl_follow.proofs.laws.all_that_is_released_comes_to_its_turn.Goals as goal

pub returns : goal.returns
returns c = turns_come
