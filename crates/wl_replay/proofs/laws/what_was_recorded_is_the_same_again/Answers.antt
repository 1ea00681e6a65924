use Rattle.wl_bench.specs.Bench.{new_bench}
use Rattle.wl_bench.specs.Table.{bench_rows}
use Rattle.wl_replay.proofs.SameAgain.{same_again}
use Rattle.wl_replay.proofs.laws.what_was_recorded_is_the_same_again.Goals as goal

pub returns : goal.returns
returns c = λ input text ended verdict. same_again (new_bench bench_rows) input text ended verdict c.each_line_that_is_printed_is_one_line.ensures
