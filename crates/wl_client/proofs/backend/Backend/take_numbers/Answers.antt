use Rattle.std.proofs.Common.{◌∙◌, refl}
use Rattle.wl_client.proofs.EventInPlace.{numbers_handled}
use Rattle.wl_client.proofs.backend.Backend.take_numbers.Goals as goal

pub returns-clause-handles : goal.returns-clause-handles
returns-clause-handles g c =
    let header = rw (← c.self.view_is) at c.requires.header in
    rw (← c.self.view_is)
    (numbers_handled _ _ _ c.in-Some.ensures.waits _ _ (λ is. c.if-header-eq-DISPLAY.false (header.1 ∙ is)) refl c.skip_message.ensures)
