use Rattle.wl_relay.proofs.Runs.{lines_told}
use Rattle.wl_relay.proofs.laws.each_line_is_told_once.Goals as goal

pub returns : goal.returns
returns c = lines_told
