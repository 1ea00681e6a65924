use Rattle.wl_guard.proofs.Fated.{all_requests}
use Rattle.wl_guard.proofs.laws.only_what_is_allowed_goes_on.Goals as goal

pub returns : goal.returns
returns c = all_requests
