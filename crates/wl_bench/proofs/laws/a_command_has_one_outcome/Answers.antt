use Rattle.wl_bench.proofs.OneOutcome.{command_one}
use Rattle.wl_bench.proofs.laws.a_command_has_one_outcome.Goals as goal

pub returns : goal.returns
returns c = command_one
