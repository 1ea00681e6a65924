use Rattle.std.proofs.Common.{◌<◌, length, arith}
use Rattle.std.proofs.lemmas.Grind.{common_steps}
use Rattle.wl_relay.proofs.TableLines.{reads_line}
use Rattle.wl_relay.proofs.commands.read_line.Goals as goal

pub returns-clause-read : goal.returns-clause-read
returns-clause-read g c = λ done.
    let read = c.in_ok-read_until.ensures in
    let some : 0 < length c.read_until.new.buf.items = grind (arith, common_steps) in
    reads_line (g.R.Read.remaining c.args.reader.now) (g.R.Read.remaining c.read_until.new.self) c.clear.new.self.items c.read_until.new.buf.items
    c.clear.ensures.items some read.bytes read.rest
