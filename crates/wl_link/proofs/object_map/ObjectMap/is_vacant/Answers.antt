use Rattle.std.proofs.Common.{sym, ◌∙◌}
use Rattle.wl_link.proofs.Keeping.{vacant_nowhere, vacant_client, vacant_server, vacant_is_free, vacant_stays}
use Rattle.wl_link.proofs.object_map.ObjectMap.is_vacant.Goals as goal

pub returns-in-Nowhere-clause-vacant : goal.returns-in-Nowhere-clause-vacant
returns-in-Nowhere-clause-vacant g c =
    rw (← c.self.view_is) (sym (vacant_nowhere c.self.inside.clients.slots.items c.self.inside.servers.slots.items c.self.invariant.within c.args.number c.in-Nowhere.ensures))

pub returns-in-Client-clause-vacant : goal.returns-in-Client-clause-vacant
returns-in-Client-clause-vacant g c =
    rw (← c.self.view_is)
    (c.is_vacant.ensures ∙ sym (vacant_client c.self.inside.clients.slots.items c.self.inside.servers.slots.items c.self.invariant.within c.args.number c.in-Client.at
    c.in-Client.ensures.0 c.in-Client.ensures.1))

pub returns-in-Client-clause-free : goal.returns-in-Client-clause-free
returns-in-Client-clause-free g c = λ is. vacant_is_free c.args.self.now.store c.args.number (sym (returns-in-Client-clause-vacant g c) ∙ is)

pub returns-in-Client-clause-stays : goal.returns-in-Client-clause-stays
returns-in-Client-clause-stays g c = λ is x. vacant_stays c.args.self.now.store c.args.number (sym (returns-in-Client-clause-vacant g c) ∙ is) x

pub returns-in-Server-clause-vacant : goal.returns-in-Server-clause-vacant
returns-in-Server-clause-vacant g c =
    rw (← c.self.view_is)
    (c.is_vacant-in-Server.ensures ∙ sym (vacant_server c.self.inside.clients.slots.items c.self.inside.servers.slots.items c.self.invariant.within c.args.number c.in-Server.at
    c.in-Server.ensures))

pub returns-in-Server-clause-free : goal.returns-in-Server-clause-free
returns-in-Server-clause-free g c = λ is. vacant_is_free c.args.self.now.store c.args.number (sym (returns-in-Server-clause-vacant g c) ∙ is)

pub returns-in-Server-clause-stays : goal.returns-in-Server-clause-stays
returns-in-Server-clause-stays g c = λ is x. vacant_stays c.args.self.now.store c.args.number (sym (returns-in-Server-clause-vacant g c) ∙ is) x
