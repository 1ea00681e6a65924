use Rattle.wl_bench.specs.Bench.{new_bench}
use Rattle.wl_bench.specs.Table.{bench_rows}
use Rattle.wl_replay.proofs.Recordings.{HasCompared}
use Rattle.wl_replay.proofs.recording.Comparison.read.Given as goal

abbrev pub invariant-loop-place : goal.invariant-loop-place
invariant-loop-place g l = HasCompared l.place (g.R.Read.remaining l.fn.reader) (g.R.Read.remaining l.reader) (new_bench bench_rows) l.self
