use Rattle.std.proofs.Common.{ap, refl}
use Rattle.wl_client.specs.Lending.{client_over}
use Rattle.wl_client.proofs.backend.Backend.transport_mut.Goals as goal

pub returns : goal.returns
returns g c = (
  (refl, λ w. ap (λ s. client_over s w) c.self.view_is),
  record { lends = tt; value = rw (← c.self.view_is) c.transport_mut.ensures.value },
)
