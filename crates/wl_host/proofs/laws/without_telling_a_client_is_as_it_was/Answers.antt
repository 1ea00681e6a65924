use Rattle.wl_host_client.proofs.ClientUntold.{new_untold, untold_copied, untold_event, untold_next, untold_received, untold_sent}
use Rattle.wl_host.proofs.laws.without_telling_a_client_is_as_it_was.Goals as goal

pub returns-clause-new : goal.returns-clause-new
returns-clause-new c = new_untold

pub returns-clause-received : goal.returns-clause-received
returns-clause-received c = untold_received

pub returns-clause-next_event : goal.returns-clause-next_event
returns-clause-next_event c = untold_event

pub returns-clause-to_send : goal.returns-clause-to_send
returns-clause-to_send c = untold_copied

pub returns-clause-sent : goal.returns-clause-sent
returns-clause-sent c = untold_sent

pub returns-clause-next_told : goal.returns-clause-next_told
returns-clause-next_told c = untold_next
