use Rattle.std.proofs.Common.{rules}
use Rattle.wl_host_client.proofs.ClientDescriptors.{conserves_dropped, none_dropped, none_held}
use Rattle.wl_host_client.proofs.client.Client.next_dropped.Goals as goal
use Rattle.wl_host_client.proofs.client.Client.next_dropped.Goals.{then-has_failed, else-has_failed}

pub returns-clause-call : goal.returns-clause-call
returns-clause-call c = elim c.if-has_failed.branch [ then-has_failed w ↦ search rules | else-has_failed w ↦ search rules ]

pub returns-clause-descriptors : goal.returns-clause-descriptors
returns-clause-descriptors c = conserves_dropped _ _ _ (returns-clause-call c)

pub returns-clause-none_dropped : goal.returns-clause-none_dropped
returns-clause-none_dropped c = none_dropped c.args.self.now c.next_passed.result c.next_passed.new.self (returns-clause-call c)

pub returns-clause-none_held : goal.returns-clause-none_held
returns-clause-none_held c = none_held c.args.self.now c.next_passed.result c.next_passed.new.self (returns-clause-call c)
