use Rattle.std.proofs.Common.{ap}
use Rattle.wl_host.proofs.Beside.{told_action_settled, told_next_settled, told_sent_settled, told_to_send_settled}
use Rattle.wl_host.proofs.Marking.{default_kills, hand_out_registries_kills, keep_names_kills, limit_kills, object_limit_kills}
use Rattle.wl_host.proofs.Settled.{action_ends_settled, bind_settled, claims_settled, cleanup_settled, creates_at_settled, creates_settled, data_settled, ends_settled, error_settled, event_settled, extends_settled, flushes_settled, insert_settled, interfaces_settled, joins_settled, kills_same, new_settled, notes_settled, received_settled, refused_global_settled, request_settled, room_settled, stays_by, stays_marked, version_settled, writable_settled}
use Rattle.wl_host.specs.Server.{ServerState}
use Rattle.wl_host.proofs.laws.a_cleanup_looks_for_the_killed.Goals as goal

pub returns-clause-new : goal.returns-clause-new
returns-clause-new c rows s h = new_settled rows s h

pub returns-clause-insert_client : goal.returns-clause-insert_client
returns-clause-insert_client c before after user_data groups hidden result h e = insert_settled before after user_data groups hidden result h e

pub returns-clause-set_room : goal.returns-clause-set_room
returns-clause-set_room c before after id room s h = room_settled before after id room s h

pub returns-clause-set_max_buffer_size : goal.returns-clause-set_max_buffer_size
returns-clause-set_max_buffer_size c before after id size h e = stays_by before after (limit_kills before.core after.core id size h) (ap (λ (s : ServerState). s.may_clean_up) e)

pub returns-clause-set_default_max_buffer_size : goal.returns-clause-set_default_max_buffer_size
returns-clause-set_default_max_buffer_size c before after size h e = stays_by before after (default_kills before.core after.core size h) (ap (λ (s : ServerState). s.may_clean_up) e)

pub returns-clause-add_interfaces : goal.returns-clause-add_interfaces
returns-clause-add_interfaces c before after rows result h e = interfaces_settled before after rows result h e

pub returns-clause-extend_interfaces : goal.returns-clause-extend_interfaces
returns-clause-extend_interfaces c before after rows result h e = extends_settled before after rows result h e

pub returns-clause-join_interface : goal.returns-clause-join_interface
returns-clause-join_interface c before after rows result h e = joins_settled before after rows result h e

pub returns-clause-received : goal.returns-clause-received
returns-clause-received c before after id bytes descriptors s h = received_settled before after id bytes descriptors s h

pub returns-clause-ended : goal.returns-clause-ended
returns-clause-ended c before after id ending s h = ends_settled before after id ending s h

pub returns-clause-next_action : goal.returns-clause-next_action
returns-clause-next_action c before after id arguments bytes s lent came_out h = told_action_settled before after id arguments bytes s lent came_out h

pub returns-clause-finish_request : goal.returns-clause-finish_request
returns-clause-finish_request c before after id user_data result knows h = request_settled before after id user_data result knows h

pub returns-clause-finish_bind : goal.returns-clause-finish_bind
returns-clause-finish_bind c before after id user_data result h = bind_settled before after id user_data result h

pub returns-clause-finish_action : goal.returns-clause-finish_action
returns-clause-finish_action c before after id action result knows h = action_ends_settled before after id action result knows h

pub returns-clause-send_event : goal.returns-clause-send_event
returns-clause-send_event c before after passed s h = event_settled before after passed s h

pub returns-clause-post_error : goal.returns-clause-post_error
returns-clause-post_error c before after object code message s h = error_settled before after object code message s h

pub returns-clause-create_object : goal.returns-clause-create_object
returns-clause-create_object c before after client interface version user_data result h e = creates_settled before after client interface version user_data result h e

pub returns-clause-set_object_data : goal.returns-clause-set_object_data
returns-clause-set_object_data c before after object user_data s h e = data_settled before after object user_data s h e

pub returns-clause-create_object_at : goal.returns-clause-create_object_at
returns-clause-create_object_at c before after client interface version number user_data result h e = creates_at_settled before after client interface version number user_data result h e

pub returns-clause-claim_object : goal.returns-clause-claim_object
returns-clause-claim_object c before after client interface version number user_data result h e = claims_settled before after client interface version number user_data result h e

pub returns-clause-set_object_version : goal.returns-clause-set_object_version
returns-clause-set_object_version c before after object version s h e = version_settled before after object version s h e

pub returns-clause-keep_global_names : goal.returns-clause-keep_global_names
returns-clause-keep_global_names c before after keep h e = stays_by before after (keep_names_kills before.core after.core keep h) (ap (λ (s : ServerState). s.may_clean_up) e)

pub returns-clause-set_object_limit : goal.returns-clause-set_object_limit
returns-clause-set_object_limit c before after limit h e = stays_by before after (object_limit_kills before.core after.core limit h) (ap (λ (s : ServerState). s.may_clean_up) e)

pub returns-clause-hand_out_registries : goal.returns-clause-hand_out_registries
returns-clause-hand_out_registries c before after hand_out h e = stays_by before after (hand_out_registries_kills before.core after.core hand_out h) (ap (λ (s : ServerState). s.may_clean_up) e)

pub returns-clause-flush_client : goal.returns-clause-flush_client
returns-clause-flush_client c before after id s h = flushes_settled before after id s h

pub returns-clause-refused_global : goal.returns-clause-refused_global
returns-clause-refused_global c before after interface version user_data groups hidden s h e = refused_global_settled before after interface version user_data groups hidden s h e

pub returns-clause-next_writable : goal.returns-clause-next_writable
returns-clause-next_writable c before after result h = writable_settled before after result h

pub returns-clause-to_send : goal.returns-clause-to_send
returns-clause-to_send c before after id bytes descriptors copied h = told_to_send_settled before after id bytes descriptors copied h

pub returns-clause-sent : goal.returns-clause-sent
returns-clause-sent c before after id count s h = told_sent_settled before after id count s h

pub returns-clause-next_told : goal.returns-clause-next_told
returns-clause-next_told c before after id lent s lent' h = told_next_settled before after id lent s lent' h

pub returns-clause-next_note : goal.returns-clause-next_note
returns-clause-next_note c before after out out' text text' s h = notes_settled before after out out' text text' s h

pub returns-clause-cleanup : goal.returns-clause-cleanup
returns-clause-cleanup c before after s h = cleanup_settled before after s h

pub returns-clause-marked : goal.returns-clause-marked
returns-clause-marked c before after on = stays_marked before after on

pub returns-clause-beside : goal.returns-clause-beside
returns-clause-beside c before after core flag = stays_by before after (kills_same before.core after.core core) flag
