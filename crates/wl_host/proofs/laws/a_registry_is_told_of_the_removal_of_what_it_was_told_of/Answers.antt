use Rattle.std.proofs.Common.{inl}
use Rattle.wl_host.proofs.Beside.{told_action_told, told_next_told, told_sent_told, told_to_send_told}
use Rattle.wl_host.proofs.StillTold.{action_ends_told, bind_told, cleanup_told, event_told, received_told, request_told}
use Rattle.wl_host.proofs.Withdrawing.{keeps_outstanding, refused_keeps}
use Rattle.wl_host.proofs.laws.a_registry_is_told_of_the_removal_of_what_it_was_told_of.Goals as goal

pub returns-clause-outstanding : goal.returns-clause-outstanding
returns-clause-outstanding c before run all = keeps_outstanding before run all

pub returns-clause-refused : goal.returns-clause-refused
returns-clause-refused c before after registry global s h failed = refused_keeps before registry global s after h failed

pub returns-clause-received : goal.returns-clause-received
returns-clause-received c before after id bytes descriptors s h = inl (received_told before after id bytes descriptors s h)

pub returns-clause-next_action : goal.returns-clause-next_action
returns-clause-next_action c before after id arguments bytes s lent came_out h = inl (told_action_told before after id arguments bytes s lent came_out h)

pub returns-clause-to_send : goal.returns-clause-to_send
returns-clause-to_send c before after id bytes descriptors copied h = inl (told_to_send_told before after id bytes descriptors copied h)

pub returns-clause-sent : goal.returns-clause-sent
returns-clause-sent c before after id count s h = inl (told_sent_told before after id count s h)

pub returns-clause-next_told : goal.returns-clause-next_told
returns-clause-next_told c before after id lent s lent' h = inl (told_next_told before after id lent s lent' h)

pub returns-clause-finish_request : goal.returns-clause-finish_request
returns-clause-finish_request c before after id user_data result h = inl (request_told before after id user_data result h)

pub returns-clause-finish_bind : goal.returns-clause-finish_bind
returns-clause-finish_bind c before after id user_data result h = inl (bind_told before after id user_data result h)

pub returns-clause-finish_action : goal.returns-clause-finish_action
returns-clause-finish_action c before after id action result h = inl (action_ends_told before after id action result h)

pub returns-clause-send_event : goal.returns-clause-send_event
returns-clause-send_event c before after passed s h = inl (event_told before after passed s h)

pub returns-clause-cleanup : goal.returns-clause-cleanup
returns-clause-cleanup c before after s h = inl (cleanup_told before after s h)

pub returns-clause-beside : goal.returns-clause-beside
returns-clause-beside c before after same = inl same
