use Rattle.wl_host.proofs.JoinsOnce.{client_keeps, client_refused, server_keeps, server_refused}
use Rattle.wl_host.proofs.laws.joining_takes_nothing_away.Goals as goal

pub returns-clause-server : goal.returns-clause-server
returns-clause-server c rows before after result h = server_keeps rows before after result h

pub returns-clause-client : goal.returns-clause-client
returns-clause-client c rows before after result h = client_keeps rows before after result h

pub returns-clause-refused_by_server : goal.returns-clause-refused_by_server
returns-clause-refused_by_server c rows before after fault h = server_refused rows before after fault h

pub returns-clause-refused_by_client : goal.returns-clause-refused_by_client
returns-clause-refused_by_client c rows before after fault h = client_refused rows before after fault h
