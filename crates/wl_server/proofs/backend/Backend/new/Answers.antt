use Rattle.std.proofs.Common.{arith, refl}
use Rattle.wl_server_model.proofs.CallSteps.Numbering.{no_numbers}
use Rattle.wl_server_model.proofs.CleanupSteps.Taken.{none_taken}
use Rattle.wl_server.proofs.Touched.Kept.{none_touched}
use Rattle.wl_server.proofs.backend.Backend.new.Goals as goal

pub invariant_of-result : goal.invariant_of-result
invariant_of-result g c =
    let within = c.new-2.ensures.len in
    rw c.new-2.ensures.items (record { within = omega (arith, within); taken = none_taken _ }, no_numbers _, (λ slot. (refl, refl)), none_touched _)
