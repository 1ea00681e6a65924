use Rattle.wl_queues.proofs.Reading.{none_is_left_waiting}
use Rattle.wl_queues.proofs.laws.no_thread_is_left_waiting.Goals as goal

pub returns : goal.returns
returns c = record { every = none_is_left_waiting }
