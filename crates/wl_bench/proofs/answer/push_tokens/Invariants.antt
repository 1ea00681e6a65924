use Rattle.std.proofs.Common.{◌≡◌, ◌++◌, take, map}
use Rattle.std.specs.List.{flat_map}
use Rattle.wl_bench.specs.Answers.{tokens_of}
use Rattle.wl_link.specs.Script.{parcel}
use Rattle.wl_bench.proofs.answer.push_tokens.Given as goal

abbrev pub invariant-loop-sent : goal.invariant-loop-sent
invariant-loop-sent l = l.tokens.items ≡ l.fn.tokens.items ++ flat_map tokens_of (map parcel (take l.sent-index l.sends))
