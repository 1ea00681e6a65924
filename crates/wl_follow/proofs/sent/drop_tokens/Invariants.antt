use Rattle.std.proofs.Common.{◌≡◌, drop}
use Rattle.wl_follow.proofs.sent.drop_tokens.Given as goal

abbrev pub invariant-loop : goal.invariant-loop
invariant-loop l = l.tokens.items ≡ drop l.counter l.fn.tokens.items
