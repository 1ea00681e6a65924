use Rattle.std.proofs.Common.{rules}
use Rattle.wl_host_client.proofs.ClientCatching.{conserves_heard}
use Rattle.wl_host_client.specs.Client.{with_mailbox}
use Rattle.wl_host_client.proofs.client.Client.received.Goals as goal

-- the mailbox and the descriptors as they are left are the witnesses
pub returns-then-eq-clause-call : goal.returns-then-eq-clause-call
returns-then-eq-clause-call c = (
  record (with_mailbox c.args.self.now c.take_in-status.new.mailbox) { arrivals = c.take_in-status.new.queue },
  (c.take_in-status.new.mailbox, c.take_in-status.new.queue, search rules, search rules),
  search rules,
)

pub returns-then-eq-clause-descriptors : goal.returns-then-eq-clause-descriptors
returns-then-eq-clause-descriptors c = conserves_heard _ _ _ _ _ (returns-then-eq-clause-call c)

pub returns-else-eq-clause-call : goal.returns-else-eq-clause-call
returns-else-eq-clause-call c = (
  record (with_mailbox c.args.self.now c.take_in-status.new.mailbox) { arrivals = c.take_in-status.new.queue },
  (c.take_in-status.new.mailbox, c.take_in-status.new.queue, search rules, search rules),
  search rules,
)

pub returns-else-eq-clause-descriptors : goal.returns-else-eq-clause-descriptors
returns-else-eq-clause-descriptors c = conserves_heard _ _ _ _ _ (returns-else-eq-clause-call c)
