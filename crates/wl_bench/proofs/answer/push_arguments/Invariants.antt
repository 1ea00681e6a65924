use Rattle.std.proofs.Common.{◌≡◌, ◌++◌, take}
use Rattle.std.specs.List.{flat_map}
use Rattle.std.specs.String.{string_bytes}
use Rattle.wl_bench.specs.Answers.{argument_text, after_byte}
use Rattle.wl_bench.proofs.answer.push_arguments.Given as goal

abbrev pub invariant-loop-arg : goal.invariant-loop-arg
invariant-loop-arg l = string_bytes l.text ≡ string_bytes l.initial.text ++ flat_map (after_byte 32 argument_text) (take l.arg-index l.rest)
