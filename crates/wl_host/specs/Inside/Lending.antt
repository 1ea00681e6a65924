-- Seats that lend the ledger of a client.
use Rattle.std.specs.Prelude.{Option}
use Rattle.std.specs.Borrow.{Fml, LendsIf, MutBor}
use Rattle.wl_server_client.specs.Ids.{ClientParts}
use Rattle.wl_host.specs.Seats.{SeatsState, with_ledger}
use Rattle.wl_host.specs.contracts.server.ledger.Ledger as ledger
use Rattle.wl_host.specs.contracts.server.seats.Seats as seats
use Rattle.wl_host.specs.declared.server.ledger.Ledger.{Ledger}

-- after the loan the seats have the ledger of the client as it was left, and all else as it was
abbrev pub LendsLedger : MutBor SeatsState → ClientParts → Option (MutBor Ledger) → Fml
LendsLedger s id l = LendsIf seats.the_row ledger.the_row s l (with_ledger s.now id) s.now
