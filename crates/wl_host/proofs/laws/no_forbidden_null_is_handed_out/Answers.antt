use Rattle.wl_host.proofs.Beside.{told_action_allowed}
use Rattle.wl_host_client.proofs.ClientCatching.{told_event_allowed}
use Rattle.wl_host.proofs.laws.no_forbidden_null_is_handed_out.Goals as goal

pub returns-clause-action : goal.returns-clause-action
returns-clause-action c before after id arguments bytes lent came_out on h = (told_action_allowed before after id arguments bytes lent came_out on h).0

pub returns-clause-action_tells_none : goal.returns-clause-action_tells_none
returns-clause-action_tells_none c before after id arguments bytes lent came_out on h = (told_action_allowed before after id arguments bytes lent came_out on h).1

pub returns-clause-event : goal.returns-clause-event
returns-clause-event c before after lent lent' came_out on h = (told_event_allowed before after lent lent' came_out on h).0

pub returns-clause-event_tells_none : goal.returns-clause-event_tells_none
returns-clause-event_tells_none c before after lent lent' came_out on h = (told_event_allowed before after lent lent' came_out on h).1
