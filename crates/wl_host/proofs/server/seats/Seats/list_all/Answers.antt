use Rattle.std.proofs.Common.{◌≡◌, length, rules}
use Rattle.wl_host.proofs.Seating.{all_listed, seats_listed}
use Rattle.wl_host.proofs.server.seats.Seats.list_all.Goals as goal

pub invariant_of-self : goal.invariant_of-self
invariant_of-self c = let inv = c.loop-slot.invariant in seats_listed c.self.inside c.loop-slot.self-inside c.self.invariant inv.beside inv.room

pub returns : goal.returns
returns c =
    let inv = c.loop-slot.invariant in
    let all : c.loop-slot.slot ≡ length c.self.inside.ledgers.items = search rules in
    rw (← c.self.view_is) (all_listed c.self.inside c.loop-slot.self-inside c.loop-slot.slot inv.beside inv.listed all)
