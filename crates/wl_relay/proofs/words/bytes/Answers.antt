use Rattle.std.proofs.Common.{rules, ◌≢◌, ◌<◌, length, codes}
use Rattle.wl_relay.proofs.HexWords.{bytes_found}
use Rattle.wl_relay.proofs.words.bytes.Goals as goal

pub returns : goal.returns
returns c =
    let word = c.args.word.now in
    let filled : word ≢ codes "-" = search rules in
    let some : 0 < length word = search rules in
    let hex = rw c.as_bytes.ensures.value at c.hex_bytes.ensures in
    bytes_found word c.hex_bytes.result filled some hex
