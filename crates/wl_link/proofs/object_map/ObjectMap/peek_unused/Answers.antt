use Rattle.wl_link.proofs.Unused.{next_of_client, next_of_server, next_unused_free, unused_is_free}
use Rattle.wl_link.proofs.object_map.ObjectMap.peek_unused.Goals as goal

pub returns-in-Some-clause-next : goal.returns-in-Some-clause-next
returns-in-Some-clause-next g c = rw (← c.self.view_is)
    (next_of_client c.self.inside.clients.slots.items c.self.inside.servers.slots.items c.self.invariant.within c.in-Some.number
    (rw c.places.ensures at c.in-Some.ensures.0) (rw c.places.ensures at c.in-Some.ensures.1))

pub returns-in-Some-clause-free : goal.returns-in-Some-clause-free
returns-in-Some-clause-free g c = unused_is_free c.args.self.now.store c.in-Some.number (returns-in-Some-clause-next g c)

pub returns-in-None-clause-next : goal.returns-in-None-clause-next
returns-in-None-clause-next g c = rw (← c.self.view_is)
    (next_of_server c.self.inside.clients.slots.items c.self.inside.servers.slots.items c.self.invariant.within
    (rw c.places.ensures at c.in-None.ensures) _ (rw c.places-in-None.ensures at c.number_of-in-None.ensures))

pub returns-in-None-clause-free : goal.returns-in-None-clause-free
returns-in-None-clause-free g c = next_unused_free c.args.self.now.store _ (returns-in-None-clause-next g c)
