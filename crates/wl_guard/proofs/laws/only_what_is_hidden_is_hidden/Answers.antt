use Rattle.wl_guard.proofs.Runs.{is_told}
use Rattle.wl_guard.proofs.laws.only_what_is_hidden_is_hidden.Goals as goal

pub returns : goal.returns
returns c = is_told
