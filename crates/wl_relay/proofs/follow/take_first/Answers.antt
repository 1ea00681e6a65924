-- That the message that was read left the link.
use Rattle.wl_relay.proofs.Lines.{taken_one}
use Rattle.wl_relay.proofs.follow.take_first.Goals as goal

pub returns-clause-taken : goal.returns-clause-taken
returns-clause-taken c = (taken_one c.args.signature.now c.args.from.now c.read_with_signature.new.self c.read_with_signature.new.message c.in-Ok.ensures.read).0

pub returns-clause-read : goal.returns-clause-read
returns-clause-read c = (taken_one c.args.signature.now c.args.from.now c.read_with_signature.new.self c.read_with_signature.new.message c.in-Ok.ensures.read).1
