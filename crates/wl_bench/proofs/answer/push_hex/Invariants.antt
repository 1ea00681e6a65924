use Rattle.std.proofs.Common.{◌≡◌, ◌++◌, take}
use Rattle.std.specs.List.{flat_map}
use Rattle.std.specs.String.{string_bytes}
use Rattle.wl_bench.specs.Hex.{hex_digits}
use Rattle.wl_bench.proofs.answer.push_hex.Given as goal

abbrev pub invariant-loop-byte : goal.invariant-loop-byte
invariant-loop-byte l = string_bytes l.text ≡ string_bytes l.fn.text ++ flat_map hex_digits (take l.byte-index l.bytes)
