use Rattle.wl_host.proofs.Ledgers.{ledger_second}
use Rattle.wl_host.proofs.server.ledger.Ledger.next_passed.Goals as goal

pub returns-in-None : goal.returns-in-None
returns-in-None c =
    let a = c.in-None.ensures in
    let b = c.next_passed-in-None.ensures in
    ledger_second c.args.self.now c.next_passed.new.self c.next_passed-in-None.new.self c.next_passed-in-None.result a.passed a.held a.front a.none b.passed b.held b.front b.none
