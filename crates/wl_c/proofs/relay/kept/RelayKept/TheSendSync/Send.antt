-- What is kept may go to another thread.
use denote.Param.Send.{IsSend, owning_send, sendable}
use Rattle.wl_c.proofs.Crossing.{held_crosses}
use Rattle.wl_host_relay.specs.contracts.relay.Relay as relay
use Rattle.wl_host_relay.proofs.relay.Relay.TheSendSync.{the_send as relay_send}
use Rattle.wl_c.specs.contracts.relay.kept.RelayKept.{the_row, the_type}

pub send : IsSend the_row
send = owning_send the_type (search sendable, tt) (λ kept. held_crosses relay.the_row relay_send kept.at kept.held) (λ k x w. tt)
