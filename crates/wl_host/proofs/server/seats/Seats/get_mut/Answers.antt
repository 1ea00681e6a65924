use Rattle.std.proofs.Common.{sym}
use Rattle.wl_host.proofs.Seating.{seats_lent}
use Rattle.wl_host.proofs.server.seats.Seats.get_mut.Goals as goal

pub invariant_of-self-lent : goal.invariant_of-self-lent
invariant_of-self-lent c = λ w.
    seats_lent c.self.inside c.add.new.self c.args.id.now c.slot.result c.in_ok-ledger.ledger.now w c.self.invariant c.add.ensures c.slot.ensures (sym c.in_ok-ledger.ensures.value)
