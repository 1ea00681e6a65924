-- What is kept may go to another thread.
use denote.Param.Send.{IsSend, owning_send, sendable}
use Rattle.wl_c.proofs.Crossing.{held_crosses}
use Rattle.wl_flat.specs.contracts.guards.Guard as guard
use Rattle.wl_flat.proofs.guards.Guard.TheSendSync.{the_send as guard_send}
use Rattle.wl_c.specs.contracts.guard.kept.GuardKept.{the_row, the_type}

pub send : IsSend the_row
send = owning_send the_type (search sendable, tt) (λ kept. held_crosses guard.the_row guard_send kept.at kept.held) (λ k x w. tt)
