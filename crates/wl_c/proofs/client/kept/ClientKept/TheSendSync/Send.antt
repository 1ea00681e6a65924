-- What is kept may go to another thread.
use denote.Param.Send.{IsSend, owning_send, sendable}
use Rattle.wl_c.proofs.Crossing.{held_crosses}
use Rattle.wl_host_client.specs.contracts.client.Client as session
use Rattle.wl_host_client.proofs.client.Client.TheSendSync.{the_send as session_sends}
use Rattle.wl_c.specs.contracts.client.kept.ClientKept.{the_row, the_type}

pub send : IsSend the_row
send = owning_send the_type (search sendable, tt) (λ kept. held_crosses session.the_row session_sends kept.at kept.held) (λ k x w. tt)
