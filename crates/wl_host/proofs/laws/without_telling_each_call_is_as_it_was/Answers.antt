use Rattle.wl_host.proofs.Beginning.{begins_untold}
use Rattle.wl_host.proofs.Untold.{untold_action, untold_heard, untold_left, untold_next, untold_sent, untold_to_send}
use Rattle.wl_host.proofs.laws.without_telling_each_call_is_as_it_was.Goals as goal

pub returns-clause-insert_client : goal.returns-clause-insert_client
returns-clause-insert_client c = begins_untold

pub returns-clause-next_action : goal.returns-clause-next_action
returns-clause-next_action c = untold_action

pub returns-clause-to_send : goal.returns-clause-to_send
returns-clause-to_send c = untold_to_send

pub returns-clause-sent : goal.returns-clause-sent
returns-clause-sent c = untold_sent

pub returns-clause-next_told : goal.returns-clause-next_told
returns-clause-next_told c = untold_next

pub returns-clause-received : goal.returns-clause-received
returns-clause-received c = untold_heard

pub returns-clause-left : goal.returns-clause-left
returns-clause-left c = untold_left
