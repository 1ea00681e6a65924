use Rattle.wl_relay.proofs.Runs.{nothing_lost}
use Rattle.wl_relay.proofs.laws.nothing_is_lost.Goals as goal

pub returns : goal.returns
returns c = nothing_lost
