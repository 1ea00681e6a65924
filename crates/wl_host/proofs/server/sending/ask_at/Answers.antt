use Rattle.std.proofs.Common.{◌∙◌, sym}
use Rattle.wl_host.proofs.Asking.{asks_at}
use Rattle.wl_host.specs.Seats.{ledger_at}
use Rattle.wl_host.proofs.server.sending.ask_at.Goals as goal

pub returns-in-Some : goal.returns-in-Some
returns-in-Some c =
    asks_at c.args.core.now c.ask.new.core (ledger_at c.args.slot c.args.seats.now.ledgers) c.in-Some.id c.ask.result (sym c.in-Some.is ∙ c.client_at.ensures) c.ask.ensures
