use Rattle.std.proofs.Common.{arith}
use Rattle.wl_link.proofs.Counting.{words_server}
use Rattle.wl_link.proofs.Keeping.{inserts_new_server}
use Rattle.wl_link.proofs.object_map.ObjectMap.server_insert_new.Goals as goal

pub returns-clause-inserts : goal.returns-clause-inserts
returns-clause-inserts g c =
    rw (← c.self.view_is)
    (inserts_new_server c.self.inside.clients.slots.items c.self.inside.servers.slots.items c.self.invariant.within _ c.args.object _ c.insert_new.ensures.places)

pub returns-clause-words_read : goal.returns-clause-words_read
returns-clause-words_read g c = rw (← c.self.view_is) (words_server c.self.inside.clients.slots.items c.self.inside.servers.slots.items c.self.invariant.within _ c.insert_new.ensures.words_read)

pub returns-clause-few_words : goal.returns-clause-few_words
returns-clause-few_words g c =
    let fits = c.self.invariant.within.servers_fit in
    c.insert_new.ensures.few_words 4 (omega arith) (omega arith)
