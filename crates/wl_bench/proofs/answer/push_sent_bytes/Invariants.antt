use Rattle.std.proofs.Common.{◌≡◌, ◌++◌, take, map}
use Rattle.std.specs.List.{flat_map}
use Rattle.std.specs.String.{string_bytes}
use Rattle.wl_bench.specs.Answers.{bytes_of, hex}
use Rattle.wl_link.specs.Script.{parcel}
use Rattle.wl_bench.proofs.answer.push_sent_bytes.Given as goal

abbrev pub invariant-loop-bytes : goal.invariant-loop-bytes
invariant-loop-bytes l = string_bytes l.text ≡ string_bytes l.fn.text ++ hex (flat_map bytes_of (map parcel (take l.bytes-index l.sends)))
