use Rattle.std.proofs.Common.{◌≡◌, ◌+◌, ◌++◌, length, take, vec_len, vec_capacity}
use Rattle.wl_wire.specs.Inside.Buffer.{tokens_of}
use Rattle.wl_wire.proofs.write.push_tokens.Given as goal

abbrev pub invariant-loop-arg : goal.invariant-loop-arg
invariant-loop-arg g l = record {
  items : l.fds.items ≡ l.fn.fds.items ++ tokens_of (take l.arg-index l.args);
  len : vec_len l.fds ≡ vec_len l.fn.fds + length (tokens_of (take l.arg-index l.args));
  capacity : vec_capacity l.fds ≡ vec_capacity l.fn.fds;
}
