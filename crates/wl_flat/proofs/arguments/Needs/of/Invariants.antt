use Rattle.std.proofs.Common.{◌≡◌, ◌≤◌, ◌+◌, length, drop, min}
use Rattle.wl_flat.specs.Arguments.{all_bytes}
use Rattle.wl_flat.proofs.arguments.Needs.of.Given as goal

abbrev pub invariant-loop-arg : goal.invariant-loop-arg
invariant-loop-arg g l = record {
  counted : min (l.bytes + length (all_bytes (drop l.arg-index l.args))) 18446744073709551615 ≡ min (length (all_bytes l.args)) 18446744073709551615;
  small : l.bytes ≤ 18446744073709551615;
}
