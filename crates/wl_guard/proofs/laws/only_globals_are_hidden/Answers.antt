use Rattle.wl_guard.proofs.Fated.{all_events}
use Rattle.wl_guard.proofs.laws.only_globals_are_hidden.Goals as goal

pub returns : goal.returns
returns c = all_events
