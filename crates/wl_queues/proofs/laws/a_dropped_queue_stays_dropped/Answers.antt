use Rattle.wl_queues.proofs.Dropped.{drops_for_good}
use Rattle.wl_queues.proofs.laws.a_dropped_queue_stays_dropped.Goals as goal

pub returns : goal.returns
returns g c = record { every = drops_for_good _ }
