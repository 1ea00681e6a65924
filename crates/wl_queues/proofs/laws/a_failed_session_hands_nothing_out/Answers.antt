use Rattle.wl_queues.proofs.Dropped.{hands_none_out_after_failing}
use Rattle.wl_queues.proofs.laws.a_failed_session_hands_nothing_out.Goals as goal

pub returns : goal.returns
returns g c = record { every = hands_none_out_after_failing _ }
