use Rattle.wl_wire.proofs.Spelling.RoundTrip.{one_spelling_lem}
use Rattle.wl_wire.proofs.laws.one_spelling.Goals as goal

pub returns : goal.returns
returns c = one_spelling_lem
