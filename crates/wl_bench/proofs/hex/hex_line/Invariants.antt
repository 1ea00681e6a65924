use Rattle.std.proofs.Common.{◌≡◌, ◌++◌, take}
use Rattle.std.specs.List.{flat_map}
use Rattle.std.specs.String.{string_bytes}
use Rattle.wl_bench.specs.Hex.{spaced_digits}
use Rattle.wl_bench.proofs.hex.hex_line.Given as goal

abbrev pub invariant-loop-byte : goal.invariant-loop-byte
invariant-loop-byte l = string_bytes l.line ≡ string_bytes l.initial.line ++ flat_map spaced_digits (take l.byte-index l.rest)
