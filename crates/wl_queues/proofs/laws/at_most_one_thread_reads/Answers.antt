use Rattle.wl_queues.proofs.Reading.{at_most_one_reads}
use Rattle.wl_queues.proofs.laws.at_most_one_thread_reads.Goals as goal

pub returns : goal.returns
returns c = record { every = at_most_one_reads }
