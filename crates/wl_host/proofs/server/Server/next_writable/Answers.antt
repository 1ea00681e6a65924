use Rattle.std.proofs.Common.{rules}
use Rattle.wl_host.proofs.Asking.{writable_found, writable_none}
use Rattle.wl_host.specs.Server.{ServerState}
use Rattle.wl_host.proofs.server.Server.next_writable.Goals as goal

abbrev after : goal.Joined-next_of → ServerState
after c = record {
  core = c.next_of.new.core;
  seats = c.next_of.new.seats;
  notes = c.self.inside.notes.items;
  may_clean_up = c.self.inside.may_clean_up;
  may_have_notes = c.self.inside.may_have_notes;
  refuses_nulls = c.self.inside.refuses_nulls;
  keeps_notes = c.self.inside.keeps_notes;
  told = c.self.inside.told.items;
  tells = c.self.inside.tells;
}

pub returns-clause-call : goal.returns-clause-call
returns-clause-call c = search rules

pub returns-clause-found : goal.returns-clause-found
returns-clause-found c = writable_found c.args.self.now (after c) c.match-next_of.result (returns-clause-call c)

pub returns-clause-none_found : goal.returns-clause-none_found
returns-clause-none_found c = writable_none c.args.self.now (after c) c.match-next_of.result (returns-clause-call c)
