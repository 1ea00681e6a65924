use Rattle.wl_host.proofs.JoinedIsThere.{joined_client, joined_server}
use Rattle.wl_host.proofs.laws.joined_interface_is_there.Goals as goal

pub returns-clause-server : goal.returns-clause-server
returns-clause-server c rows before after number h = joined_server rows before after number h

pub returns-clause-client : goal.returns-clause-client
returns-clause-client c rows before after number h = joined_client rows before after number h
