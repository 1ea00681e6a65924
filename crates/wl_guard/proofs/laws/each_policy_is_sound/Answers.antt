use Rattle.wl_guard.proofs.Sound.{each_sound}
use Rattle.wl_guard.proofs.laws.each_policy_is_sound.Goals as goal

pub returns : goal.returns
returns c = each_sound
