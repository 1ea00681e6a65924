use Rattle.std.proofs.Common.{◌≡◌, ◌++◌, drop, map}
use Rattle.std.specs.String.{string_bytes}
use Rattle.wl_bench.specs.Answers.{records_lines}
use Rattle.wl_bench.proofs.answer.push_records.Given as goal

abbrev pub invariant-loop-client : goal.invariant-loop-client
invariant-loop-client l = map string_bytes l.lines.items ++ records_lines (drop l.client-index l.clients) l.rest ≡ map string_bytes l.fn.lines.items ++ records_lines l.clients l.replies
