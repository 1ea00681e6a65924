use Rattle.std.proofs.Common.{refl}
use Rattle.wl_server.proofs.CallSteps.Kept.{kept_written, with_plain}
use Rattle.wl_server_client.proofs.CallSteps.Numbers.{in_time_none}
use Rattle.wl_server.proofs.CallSteps.LendingData.{lends_none, lends_stored}
use Rattle.wl_server_model.proofs.Plain.Objects.{sets_what_is_left}
use Rattle.wl_server.proofs.backend.Backend.with_object_data.Goals as goal

pub invariant_of-self : goal.invariant_of-self
invariant_of-self g c = (c.self.invariant.0, c.self.invariant.1, c.self.invariant.2, c.in_default.ensures.touched c.self.invariant.3)

pub invariant_of-self-2 : goal.invariant_of-self-2
invariant_of-self-2 g c =
    kept_written _ _ _ _ _ _ _ _ _ _ (rw (← c.stored.view_is) at c.in-Some.ensures.value) (in_time_none _ _) (λ is. is) c.in-Some.ensures.touched
    c.self.invariant

pub returns-in_default : goal.returns-in_default
returns-in_default g c = with_plain (sets_what_is_left _ _ _ c.args.id.now _ _)
    (rw (← c.self.view_is) (lends_none _ _ _ _ c.args.id.now _ c.client-client.result c.client-client.ensures c.in_default.ensures.value refl))

pub returns : goal.returns
returns g c = with_plain (sets_what_is_left _ _ _ c.args.id.now _ _) (rw (← c.self.view_is)
    (lends_stored _ _ _ _ c.args.id.now c.lend_data.result c.client-client.result _ c.client-client.ensures
    (rw (← c.stored.view_is) at c.in-Some.ensures.value) c.self.invariant.2 _ c.lend_data.ensures))
