-- What was written so far and what is left are all.
use Rattle.std.proofs.Common.{◌≡◌, ◌+◌, ◌++◌, length, take, drop}
use Rattle.wl_flat.specs.Arguments.{all_bytes}
use Rattle.wl_flat.specs.Told.{told_arguments}
use Rattle.wl_flat.proofs.telling.write_told.Given as goal

abbrev pub invariant-loop-arg : goal.invariant-loop-arg
invariant-loop-arg l =
    let rest = drop l.arg-index l.args in
    record {
      counted : l.count ≡ l.arg-index;
      arguments : take l.count l.arguments ++ told_arguments l.follower l.at rest ≡ told_arguments l.follower 0 l.args;
      behind_arguments : drop l.count l.arguments ≡ drop l.count l.fn.arguments;
      bytes : take l.at l.bytes ++ all_bytes rest ≡ all_bytes l.args;
      behind_bytes : drop l.at l.bytes ≡ drop l.at l.fn.bytes;
      place : l.at + length (all_bytes rest) ≡ length (all_bytes l.args);
    }
