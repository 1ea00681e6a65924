use Rattle.wl_wire.proofs.Spelling.RoundTrip.{one_stream_lem}
use Rattle.wl_wire.proofs.laws.one_stream.Goals as goal

pub returns : goal.returns
returns c = one_stream_lem
