use Rattle.std.proofs.Common.{[], ◌∷◌, refl}
use Rattle.wl_server_client.specs.Part.{id_of}
use Rattle.wl_server_client.specs.Telling.{deletions, done_message}
use Rattle.wl_server_client.proofs.Readings.Handling.{replied}
use Rattle.wl_server_client.proofs.client.Client.tell_done.Goals as goal

pub returns-clause-handled : goal.returns-clause-handled
returns-clause-handled g c h =
    rw (← c.self.view_is)
    (replied g.T.Transport.sends _ _ c.put_done-wrote.new.socket (done_message
    (id_of c.args.callback.now) ∷ deletions c.args.callback.now.number) [] c.put_done-wrote.result c.kill_unless_answered.result h
    (λ stops. (refl, λ rest. refl))
    (rw (← c.self.view_is) at c.requires) (rw c.protocol_id.ensures at c.put_done-wrote.ensures c.args.callback.now.serial) c.kill_unless_answered.ensures.replied)
