use Rattle.wl_link.specs.Inside.PlaceList.{store_of}
use Rattle.wl_link.specs.Store.{server_range}
use Rattle.wl_link.proofs.Keeping.{next_server, told_is_given}
use Rattle.wl_link.proofs.object_map.ObjectMap.peek_server.Goals as goal

pub returns-clause-next : goal.returns-clause-next
returns-clause-next g c =
    rw (← c.self.view_is)
    (next_server c.self.inside.clients.slots.items c.self.inside.servers.slots.items c.self.invariant.within _ _ c.first_free.ensures.first c.number_of.ensures)

pub returns-clause-given : goal.returns-clause-given
returns-clause-given g c =
    let clients = c.self.inside.clients.slots.items in
    let servers = c.self.inside.servers.slots.items in
    rw (← c.self.view_is)
    (told_is_given server_range (store_of clients servers) _
    (next_server clients servers c.self.invariant.within _ _ c.first_free.ensures.first c.number_of.ensures))
