use Rattle.wl_queues.proofs.Accounts.{accounts_for_queues}
use Rattle.wl_queues.proofs.laws.each_queue_is_accounted_for.Goals as goal

pub returns : goal.returns
returns g c = record { every = accounts_for_queues _ }
