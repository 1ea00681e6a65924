use Rattle.std.proofs.Common.{refl}
use Rattle.wl_server_model.proofs.CallSteps.Feeling.{unfelt_call}
use Rattle.wl_server.proofs.backend.Backend.hand_out_registries.Goals as goal

pub returns-clause-call : goal.returns-clause-call
returns-clause-call g c = rw (← c.self.view_is)
    (unfelt_call _ _ _ _ (record { last = refl; client = λ b. tt; order = tt; room = λ b. tt; notes = λ b a h. h })
    _ _ refl tt refl (λ i b. (refl, (refl, refl, refl))) c.self.invariant.2)

pub returns-clause-plain : goal.returns-clause-plain
returns-clause-plain g c = rw (← c.self.view_is) (record { server = refl; memory = refl })
