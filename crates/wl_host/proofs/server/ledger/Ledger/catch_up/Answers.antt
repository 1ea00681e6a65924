use Rattle.wl_host.proofs.Catching.{told_caught}
use Rattle.wl_host.proofs.server.ledger.Ledger.catch_up.Goals as goal

pub returns-in-Some : goal.returns-in-Some
returns-in-Some c = told_caught c.args.self.now c.in-Some.telling c.catch_up.new.self c.args.unread c.args.mailbox.now c.catch_up.result c.in-Some.is c.catch_up.ensures
