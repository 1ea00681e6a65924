use Rattle.std.proofs.Common.{refl}
use Rattle.wl_host.proofs.Ledgers.{taken_after}
use Rattle.wl_host.proofs.Seating.{seats_passed}
use Rattle.wl_host.proofs.server.seats.Seats.next_passed.Goals as goal

pub invariant_of-self-in-None : goal.invariant_of-self-in-None
invariant_of-self-in-None c =
    let m = c.next_marked.ensures in
    seats_passed c.self.inside _ c.self.invariant m.len (taken_after _ _ _ _ m.passed) refl c.next_left.ensures.len c.next_left.ensures.capacity refl m.room
    (m.marks c.self.invariant.marks)
