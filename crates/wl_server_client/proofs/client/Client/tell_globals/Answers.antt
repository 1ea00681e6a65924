use Rattle.std.proofs.Common.{[], ◌∷◌, refl}
use Rattle.wl_server_client.specs.Deeds.{Remembered}
use Rattle.wl_server_client.specs.Globals.{shown}
use Rattle.wl_server_client.specs.Part.{id_of}
use Rattle.wl_server_client.specs.Telling.{introductions}
use Rattle.wl_server_client.specs.Inside.ReadingLoop.{around_of}
use Rattle.wl_server_client.proofs.Readings.Handling.{replied}
use Rattle.wl_server_client.proofs.client.Client.tell_globals.Goals as goal

pub returns-clause-handled : goal.returns-clause-handled
returns-clause-handled g c h =
    rw (← c.self.view_is)
    (replied _ _ _ c.put_globals-wrote.new.socket
    (introductions c.args.around.now.protocol.now (id_of c.args.registry.now) 0
    (shown g.G.GlobalHandler.views (around_of g.G.GlobalHandler.views c.args.around.now).globals c.args.around.now.client c.self.inside.data))
    (Remembered (id_of c.args.registry.now) ∷ []) c.put_globals-wrote.result c.kill_unless_answered.result h (λ stops. (refl, λ rest. refl))
    (rw (← c.self.view_is) at c.requires) c.put_globals-wrote.ensures c.kill_unless_answered.ensures.replied)
