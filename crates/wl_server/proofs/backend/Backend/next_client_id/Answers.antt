use Rattle.std.proofs.Common.{Some, arith, inr, refl}
use Rattle.wl_server_model.specs.Server.{stored_at}
use Rattle.wl_server_model.proofs.OverRuns.Outcome.NumberLaws.{client_is_as_told}
use Rattle.wl_server.proofs.backend.Backend.next_client_id.Goals as goal

pub returns-then-self : goal.returns-then-self
returns-then-self g c = rw (← c.self.view_is) (record { next = inr c.if-self.true; given = client_is_as_told _ _ _ (inr c.if-self.true) })

pub returns-clause-given : goal.returns-clause-given
returns-clause-given g c =
    rw (← c.self.view_is, c.from_parts.ensures) (client_is_as_told _ _ (Some _)
    (rw c.deref.ensures.value at c.in_ok-slot.ensures, omega (arith, c.if-self.false), refl))

pub returns-in_err-slot-clause-given : goal.returns-in_err-slot-clause-given
returns-in_err-slot-clause-given g c = grind (arith, stored_at, client_is_as_told)

pub returns-in_err-slot-clause-next : goal.returns-in_err-slot-clause-next
returns-in_err-slot-clause-next g c = grind (arith, stored_at)
