use Rattle.std.proofs.Common.{refl}
use Rattle.wl_wire.specs.Message.{content}
use Rattle.wl_wire.specs.Table.{message_row}
use Rattle.wl_client.proofs.Handling.{display_handles, event_handles, passed_handles}
use Rattle.wl_client.specs.Inside.Conversion.{objects_in}
use Rattle.wl_client.proofs.backend.Backend.take_and_handle.Goals as goal

pub returns-then-message-eq-DISPLAY-clause-taken : goal.returns-then-message-eq-DISPLAY-clause-taken
returns-then-message-eq-DISPLAY-clause-taken g c =
    let took = rw c.in-Some.is at c.in_ok-taken.ensures.took in
    let last = c.self-inside.inside.0.1.1.1.0 in
    rw (← c.self.view_is, ← c.self-inside.view_is)
    (display_handles _ _ _ _ _ _ last (objects_in c.handle_display.new.objects last) (content c.take.new.message) _ _ _ _ _ _ _ _ _ c.in_ok-taken.ensures.store
    c.in_ok-taken.ensures.freed c.handle_display.ensures.kept took.0 (message_row c.in-Some.desc.now) _ _ took.1 c.if-message-eq-DISPLAY.true
    c.handle_display.ensures.freed (c.handle_display.ensures.carries last _ _))

pub returns-clause-taken : goal.returns-clause-taken
returns-clause-taken g c =
    let took = rw c.in-Some.is at c.in_ok-taken.ensures.took in
    rw (← c.self.view_is, ← c.self-inside.view_is)
    (event_handles _ _ _ _ _ _ c.self-inside.inside.0.1.1.1.0 (objects_in c.handle_and_tell-handled.new.objects c.handle_and_tell-handled.new.last_serial)
    (content c.take.new.message) _ _ _ _ _ _ _ _ _ c.in_ok-taken.ensures.store c.in_ok-taken.ensures.freed c.handle_and_tell-handled.ensures.kept took.0
    (message_row c.in-Some.desc.now) _ c.if-message-eq-DISPLAY.false took.1 _ _ _ _
    c.event_end.ensures c.handle_and_tell-handled.ensures.handled c.handle_and_tell-handled.ensures.freed)

-- the message was passed over
pub returns-in_default-clause-taken : goal.returns-in_default-clause-taken
returns-in_default-clause-taken g c =
    let took = rw c.in_default.is at c.in_ok-taken.ensures.took in
    let last = c.self-inside.inside.0.1.1.1.0 in
    rw (← c.self.view_is, ← c.self-inside.view_is)
    (passed_handles _ _ _ _ _ _ last (objects_in c.take.new.objects last) (content c.take.new.message) _ _ _ _ _ _ _ _ _ c.in_ok-taken.ensures.store
    c.in_ok-taken.ensures.freed refl took.0 took.1 (λ i. record { store = c.in_ok-taken.ensures.store i; last_serial = last }) refl)
