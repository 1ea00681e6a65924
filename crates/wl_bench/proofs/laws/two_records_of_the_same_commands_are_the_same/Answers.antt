use Rattle.wl_bench.proofs.SameRecords.{records_one}
use Rattle.wl_bench.proofs.laws.two_records_of_the_same_commands_are_the_same.Goals as goal

pub returns : goal.returns
returns c = records_one
