use Rattle.wl_queues.proofs.Unused.{names_no_free_object}
use Rattle.wl_queues.proofs.laws.no_event_names_a_free_object.Goals as goal

pub returns : goal.returns
returns g c = record { every = names_no_free_object _ }
