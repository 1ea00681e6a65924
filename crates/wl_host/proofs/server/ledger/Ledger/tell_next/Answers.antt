use Rattle.wl_host.proofs.Catching.{told_next}
use Rattle.wl_host.proofs.server.ledger.Ledger.tell_next.Goals as goal

pub returns-in-Some : goal.returns-in-Some
returns-in-Some c = told_next c.args.table.now c.args.self.now c.in-Some.telling c.next.new.self _ _ _ c.in-Some.is c.next.ensures
