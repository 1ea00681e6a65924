use Rattle.std.proofs.Common.{◌≡◌, ◌∙◌, refl, sym, Ok, Err, is_some, false}
use Rattle.wl_wire.specs.declared.error.IoFault.TheVariants as fault
use Rattle.wl_link.specs.Link.{Flushed}
use Rattle.wl_client.proofs.Flushing.{session_flushed, fault_stored}
use Rattle.wl_client.proofs.backend.Backend.send_waiting.Goals as goal

pub returns-in_default-clause-flushed : goal.returns-in_default-clause-flushed
returns-in_default-clause-flushed g c =
    let none : is_some c.args.self.now.session.error ≡ false =
    rw (← c.self.view_is) (sym c.is_some.ensures ∙ c.if-is_some.false)
    in
    session_flushed g.T.Transport.sends c.args.self.now.session (Ok tt) c.flush.new.self (Ok tt) _ none
    (rw (← c.self.view_is) c.in_default.ensures.flushed) (refl, rw (← c.self.view_is) refl)

pub returns-in-WouldBlock-clause-flushed : goal.returns-in-WouldBlock-clause-flushed
returns-in-WouldBlock-clause-flushed g c =
    let none : is_some c.args.self.now.session.error ≡ false =
    rw (← c.self.view_is) (sym c.is_some.ensures ∙ c.if-is_some.false)
    in
    let made : Flushed g.T.Transport.sends c.args.self.now.session.link (Err fault.WouldBlock) c.flush.new.self =
    rw (← c.self.view_is) (rw c.in-WouldBlock.is at c.in-Err.ensures.flushed)
    in
    session_flushed g.T.Transport.sends c.args.self.now.session (Err fault.WouldBlock) c.flush.new.self (Err _) _ none
    made (refl, rw (← c.self.view_is) refl)

pub returns-in-OutOfMemory-clause-flushed : goal.returns-in-OutOfMemory-clause-flushed
returns-in-OutOfMemory-clause-flushed g c =
    let none : is_some c.args.self.now.session.error ≡ false =
    rw (← c.self.view_is) (sym c.is_some.ensures ∙ c.if-is_some.false)
    in
    let made : Flushed g.T.Transport.sends c.args.self.now.session.link (Err fault.OutOfMemory) c.flush.new.self =
    rw (← c.self.view_is) (rw c.in-OutOfMemory.is at c.in-Err.ensures.flushed)
    in
    session_flushed g.T.Transport.sends c.args.self.now.session (Err fault.OutOfMemory) c.flush.new.self (Err _) _ none
    made (refl, rw (← c.self.view_is) refl)

pub returns-in_default-fault-clause-flushed : goal.returns-in_default-fault-clause-flushed
returns-in_default-fault-clause-flushed g c =
    let none : is_some c.args.self.now.session.error ≡ false =
    rw (← c.self.view_is) (sym c.is_some.ensures ∙ c.if-is_some.false)
    in
    session_flushed g.T.Transport.sends c.args.self.now.session (Err c.in-Err.fault) c.flush.new.self (Err _) _ none
    (rw (← c.self.view_is) c.in-Err.ensures.flushed)
    (fault_stored _ _ c.in-Err.fault c.in_default-fault.not-WouldBlock c.in_default-fault.not-OutOfMemory
    (rw (← c.self.view_is) refl))
