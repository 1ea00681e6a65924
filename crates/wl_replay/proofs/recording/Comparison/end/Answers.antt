use Rattle.std.proofs.Common.{◌<◌, arith, refl, length}
use Rattle.wl_replay.proofs.Recordings.{some_missing}
use Rattle.wl_replay.proofs.recording.Comparison.end.Goals as goal

pub returns-then-self-len : goal.returns-then-self-len
returns-then-self-len c =
    let more : c.args.self.now.found < length c.args.self.now.lines.items = omega (arith, c.if-self-len.true, c.len.ensures, c.args.self.now.lines.ok.0) in
    (some_missing c.args.self.now more, refl)
