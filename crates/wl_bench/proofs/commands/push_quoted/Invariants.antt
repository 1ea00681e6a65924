use Rattle.std.proofs.Common.{◌≡◌, ◌++◌, take, map}
use Rattle.std.specs.String.{string_bytes}
use Rattle.wl_bench.specs.Record.{quoted, text_of}
use Rattle.wl_bench.proofs.commands.push_quoted.Given as goal

abbrev pub invariant-loop-line : goal.invariant-loop-line
invariant-loop-line l = l.text.items ≡ l.fn.text.items ++ text_of (map quoted (map string_bytes (take l.line-index l.lines)))
