use Rattle.std.proofs.Common.{◌≡◌, ◌+◌, ◌++◌, length, take, drop}
use Rattle.wl_flat.specs.Arguments.{all_bytes, flat_arguments, queue_after_all}
use Rattle.wl_flat.proofs.arguments.write_arguments.Given as goal

-- what was written so far and what is left are all
abbrev pub invariant-loop-arg : goal.invariant-loop-arg
invariant-loop-arg g l =
    let flat = g.O.Objects.flat_of in
    let user_data = g.O.Objects.data_of l.objects in
    let rest = drop l.arg-index l.args in
    record {
      counted : l.count ≡ l.arg-index;
      arguments : take l.count l.arguments ++ flat_arguments flat user_data l.descriptors l.at rest ≡ flat_arguments flat user_data l.fn.descriptors 0 l.args;
      behind_arguments : drop l.count l.arguments ≡ drop l.count l.fn.arguments;
      bytes : take l.at l.bytes ++ all_bytes rest ≡ all_bytes l.args;
      behind_bytes : drop l.at l.bytes ≡ drop l.at l.fn.bytes;
      place : l.at + length (all_bytes rest) ≡ length (all_bytes l.args);
      queue : queue_after_all l.descriptors rest ≡ queue_after_all l.fn.descriptors l.args;
    }
