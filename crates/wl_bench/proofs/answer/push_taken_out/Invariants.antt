use Rattle.std.proofs.Common.{◌≡◌, ◌++◌, take, map}
use Rattle.std.specs.List.{flat_map}
use Rattle.std.specs.String.{string_bytes}
use Rattle.wl_bench.specs.Answers.{share_lines}
use Rattle.wl_bench.proofs.answer.push_taken_out.Given as goal

abbrev pub invariant-loop-client : goal.invariant-loop-client
invariant-loop-client l = map string_bytes l.lines.items ≡ map string_bytes l.fn.lines.items ++ flat_map share_lines (take l.client-index l.client-items)
