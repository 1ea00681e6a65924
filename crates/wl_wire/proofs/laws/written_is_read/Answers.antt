use Rattle.wl_wire.proofs.Spelling.RoundTrip.{written_is_read_lem}
use Rattle.wl_wire.proofs.laws.written_is_read.Goals as goal

pub returns : goal.returns
returns c = written_is_read_lem
