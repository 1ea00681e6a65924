use Rattle.wl_queues.proofs.Unused.{tells_each_object_unused_once}
use Rattle.wl_queues.proofs.laws.each_object_is_told_unused_once.Goals as goal

pub returns : goal.returns
returns g c = record { every = tells_each_object_unused_once _ }
