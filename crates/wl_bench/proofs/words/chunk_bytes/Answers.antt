use Rattle.std.proofs.Common.{rules, ◌≢◌, ◌<◌, length, codes}
use Rattle.wl_bench.proofs.HexWords.{bytes_found}
use Rattle.wl_bench.proofs.words.chunk_bytes.Goals as goal

pub returns : goal.returns
returns c =
    let word = c.args.word.now in
    let filled : word ≢ codes "-" = search rules in
    let some : 0 < length word = search rules in
    let hex = rw c.as_bytes.ensures.value at c.bytes.ensures in
    bytes_found word c.bytes.result filled some hex
