-- What is kept may go to another thread.
use denote.Param.Send.{IsSend, owning_send, sendable}
use Rattle.wl_c.proofs.Crossing.{held_crosses}
use Rattle.wl_flat.specs.contracts.event_queues.EventQueues as queues
use Rattle.wl_flat.proofs.event_queues.EventQueues.TheSendSync.{the_send as queues_send}
use Rattle.wl_c.specs.contracts.queues.kept.QueuesKept.{the_row, the_type}

pub send : IsSend the_row
send = owning_send the_type (search sendable, tt) (λ kept. held_crosses queues.the_row queues_send kept.at kept.held) (λ k x w. tt)
