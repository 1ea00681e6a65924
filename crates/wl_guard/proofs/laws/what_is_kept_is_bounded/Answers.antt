use Rattle.wl_guard.proofs.Kept.{is_bounded}
use Rattle.wl_guard.proofs.laws.what_is_kept_is_bounded.Goals as goal

pub returns : goal.returns
returns c = is_bounded
