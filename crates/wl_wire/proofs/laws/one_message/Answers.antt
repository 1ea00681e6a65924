use Rattle.wl_wire.proofs.Spelling.RoundTrip.{one_message_lem}
use Rattle.wl_wire.proofs.laws.one_message.Goals as goal

pub returns : goal.returns
returns c = one_message_lem
