use Rattle.wl_bench.proofs.RunLines.{HasRun}
use Rattle.wl_bench.proofs.commands.run_lines.Given as goal

abbrev pub invariant-loop-number : goal.invariant-loop-number
invariant-loop-number g l = HasRun l.form l.number (g.R.Read.remaining l.fn.reader) (g.R.Read.remaining l.reader) l.fn.bench l.bench (g.W.Write.contents l.fn.writer) (g.W.Write.contents l.writer)
