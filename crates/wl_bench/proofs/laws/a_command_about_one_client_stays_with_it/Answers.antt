use Rattle.wl_bench.proofs.Others.{stays_with}
use Rattle.wl_bench.proofs.laws.a_command_about_one_client_stays_with_it.Goals as goal

pub returns : goal.returns
returns c = stays_with
