use Rattle.wl_wire.proofs.Spelling.FrontLaws.{message_front, malformed_front}
use Rattle.wl_wire.proofs.laws.fronts_stay.Goals as goal

pub returns-clause-message : goal.returns-clause-message
returns-clause-message c = message_front

pub returns-clause-malformed : goal.returns-clause-malformed
returns-clause-malformed c = malformed_front
