use Rattle.std.proofs.Common.{◌≡◌, ◌∙◌, false, is_some, sym}
use Rattle.wl_client.proofs.Readings.{waits_next}
use Rattle.wl_client.proofs.backend.Backend.read_numbers.Goals as goal

pub returns : goal.returns
returns g c =
    let live : is_some c.args.self.now.session.error ≡ false = rw (← c.self.view_is) (sym c.is_some.ensures ∙ c.if-is_some.false) in
    let closed : is_some c.args.self.now.session.open_event ≡ false
    = rw (← c.self.view_is) (sym c.is_some-else-is_some.ensures ∙ c.if-is_some-2.false)
    in
    waits_next g.T.Transport.sends g.T.Transport.receives c.args.self.now.session _ c.take_numbers.new.event live closed
    (rw (← c.self-2.view_is) at c.if-not-take_numbers.ensures.handles)
