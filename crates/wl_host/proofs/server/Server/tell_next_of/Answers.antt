use Rattle.std.proofs.Common.{sym}
use Rattle.wl_host.proofs.Catching.{conserves_told, tells_seated}
use Rattle.wl_host.proofs.server.Server.tell_next_of.Goals as goal

pub returns-clause-told : goal.returns-clause-told
returns-clause-told c = rw (← c.self.view_is) (tells_seated _ c.args.id.now c.in-Some.ledger.now c.tell_next.new.self _ _ _ _ (sym c.in-Some.ensures.value) c.protocol.ensures c.tell_next.ensures)

pub returns-clause-descriptors : goal.returns-clause-descriptors
returns-clause-descriptors c =
    rw (← c.self.view_is) (conserves_told _ _ c.args.id.now _ _ _ c.in-Some.ledger.now c.tell_next.new.self (sym c.in-Some.ensures.value) c.tell_next.ensures)
