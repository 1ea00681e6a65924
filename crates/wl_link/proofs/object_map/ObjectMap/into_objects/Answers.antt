use Rattle.std.proofs.Common.{sym}
use Rattle.wl_link.proofs.Keeping.{all_entries, walk_of_places}
use Rattle.wl_link.proofs.object_map.ObjectMap.into_objects.Goals as goal

pub returns : goal.returns
returns g c =
    rw (← c.self.view_is, c.into_objects.ensures, c.into_objects-2.ensures)
    (record {
      objects = sym (all_entries c.self.inside.clients.slots.items c.self.inside.servers.slots.items c.self.invariant.within);
      walk = walk_of_places c.self.inside.clients.slots.items c.self.inside.servers.slots.items c.self.invariant.within;
    })
