use Rattle.std.proofs.Common.{refl, sym}
use Rattle.wl_host.proofs.Seating.{room_to_go, seats_gone}
use Rattle.wl_host.proofs.server.seats.Seats.depart.Goals as goal

pub let_go-requires-clause-gone : goal.let_go-requires-clause-gone
let_go-requires-clause-gone c = (room_to_go c.self.inside c.args.id.now c.in-Some.ledger c.self.invariant (sym c.in-Some.ensures.value)).0

pub let_go-requires-clause-left : goal.let_go-requires-clause-left
let_go-requires-clause-left c = (room_to_go c.self.inside c.args.id.now c.in-Some.ledger c.self.invariant (sym c.in-Some.ensures.value)).1

pub invariant_of-self : goal.invariant_of-self
invariant_of-self c =
    let g = c.let_go.ensures.gone in
    let l = c.let_go.ensures.left in
    seats_gone c.self.inside _ c.args.id.now c.in-Some.ledger c.self.invariant (sym c.in-Some.ensures.value) c.in-Some.ensures.after c.in-Some.ensures.len g.1.0 g.1.1 l.1.0 l.1.1 refl refl
