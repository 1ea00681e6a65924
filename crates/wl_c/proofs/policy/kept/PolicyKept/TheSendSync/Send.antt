-- What is kept may go to another thread.
use denote.Param.Send.{IsSend, owning_send, sendable}
use Rattle.wl_c.proofs.Crossing.{held_crosses}
use Rattle.wl_flat.specs.contracts.guards.Policy as policy
use Rattle.wl_flat.proofs.guards.Policy.TheSendSync.{the_send as policy_send}
use Rattle.wl_c.specs.contracts.policy.kept.PolicyKept.{the_row, the_type}

pub send : IsSend the_row
send = owning_send the_type (search sendable, tt) (λ kept. held_crosses policy.the_row policy_send kept.at kept.held) (λ k x w. tt)
