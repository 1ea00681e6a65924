-- The messages so far were passed.
use Rattle.std.proofs.Common.{length}
use Rattle.wl_guard.specs.Known.{known}
use Rattle.wl_guard.specs.Steps.{HasPassed}
use Rattle.wl_guard.proofs.session.pass.Given as goal

abbrev pub invariant-messages : goal.invariant-messages
invariant-messages l = HasPassed l.policy l.side (known l.fn.session) l.fn.from l.fn.to l.fn.released.items (known l.session) l.from l.to l.released.items

abbrev pub decreases-messages : goal.decreases-messages
decreases-messages l = length l.from.bytes
