use Rattle.std.proofs.Common.{◌≡◌, ◌≤◌, ◌+◌, ◌*◌, length, take}
use Rattle.std.specs.List.{sum_by}
use Rattle.wl_wire.specs.Inside.Buffer.{piece_len, tokens_of}
use Rattle.wl_wire.proofs.write.measure_of.Given as goal

abbrev pub invariant-loop-arg : goal.invariant-loop-arg
invariant-loop-arg g l = record {
  bytes : l.count.tails + 4 * l.arg-index ≡ 4 * l.count.tokens + sum_by piece_len (take l.arg-index l.args);
  small : l.count.tails ≤ 65535;
  tokens : l.count.tokens ≡ length (tokens_of (take l.arg-index l.args));
  few : l.count.tokens ≤ l.arg-index;
}
