use Rattle.std.proofs.Common.{◌≡◌, ◌++◌, take}
use Rattle.std.specs.List.{flat_map}
use Rattle.std.specs.String.{string_bytes}
use Rattle.wl_bench.specs.Answers.{after_byte, token_text}
use Rattle.wl_bench.proofs.answer.push_token_list.Given as goal

abbrev pub invariant-loop-token : goal.invariant-loop-token
invariant-loop-token l = string_bytes l.text ≡ string_bytes l.initial.text ++ flat_map (after_byte 44 token_text) (take l.token-index l.rest)
