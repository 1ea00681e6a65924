use Rattle.wl_server_client.proofs.Readings.Handling.{garbled_handled}
use Rattle.wl_server_client.proofs.client.Client.kill_for_malformed.Goals as goal

pub returns-clause-handled : goal.returns-clause-handled
returns-clause-handled g c = rw (← c.self.view_is) (garbled_handled _ _ _ c.args.violation c.kill.ensures.killed)
