use Rattle.std.proofs.Common.{sym, ◌∙◌}
use Rattle.wl_link.proofs.Keeping.{free_nowhere, free_client, free_server}
use Rattle.wl_link.proofs.object_map.ObjectMap.is_free.Goals as goal

pub returns-in-Nowhere : goal.returns-in-Nowhere
returns-in-Nowhere g c =
    rw (← c.self.view_is) (sym (free_nowhere c.self.inside.clients.slots.items c.self.inside.servers.slots.items c.self.invariant.within c.args.number c.in-Nowhere.ensures))

pub returns-in-Client : goal.returns-in-Client
returns-in-Client g c =
    rw (← c.self.view_is)
    (c.is_free.ensures ∙ sym (free_client c.self.inside.clients.slots.items c.self.inside.servers.slots.items c.self.invariant.within c.args.number c.in-Client.at
    c.in-Client.ensures.0 c.in-Client.ensures.1))

pub returns-in-Server : goal.returns-in-Server
returns-in-Server g c =
    rw (← c.self.view_is)
    (c.is_free-in-Server.ensures ∙ sym (free_server c.self.inside.clients.slots.items c.self.inside.servers.slots.items c.self.invariant.within c.args.number c.in-Server.at
    c.in-Server.ensures))
