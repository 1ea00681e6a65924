use Rattle.std.proofs.Common.{false, refl}
use Rattle.wl_server_client.specs.Stored.{no_times}
use Rattle.wl_server.proofs.CallSteps.Kept.{kept_written, with_plain}
use Rattle.wl_server_client.proofs.CallSteps.Numbers.{in_time_none}
use Rattle.wl_server.proofs.CallSteps.OneClient.{done_to, none_stored}
use Rattle.wl_server_model.proofs.ObjectCalls.Setting.{set_does}
use Rattle.wl_server_model.proofs.Plain.Objects.{sets_object_data}
use Rattle.wl_server.proofs.backend.Backend.set_object_data.Goals as goal

pub returns-in_default : goal.returns-in_default
returns-in_default g c = with_plain (sets_object_data _ _ _) (rw (← c.self.view_is)
    (none_stored _ _ _ _ refl c.args.id.now.client _ _ (λ i l d b a h. (_, refl, h)) _ c.client-client.ensures c.in_default.ensures.value refl
    c.self.invariant.2))

pub returns : goal.returns
returns g c = with_plain (sets_object_data _ _ _) (rw (← c.self.view_is)
    (done_to _ _ _ _ refl c.args.id.now.client _ _ (λ i l d b a h. (_, refl, h)) _ _ _ false c.client-client.ensures
    (rw (← c.stored.view_is) at c.in-Some.ensures.value) (set_does (record { serial = _; part = _; made = _; times = no_times }) c.args.id.now
    c.args.user_data c.give_data.result _ c.give_data.ensures.answer c.give_data.ensures.given) _ (in_time_none _ _) (λ is. is) c.self.invariant.2))

pub invariant_of-self : goal.invariant_of-self
invariant_of-self g c = (c.self.invariant.0, c.self.invariant.1, c.self.invariant.2, c.in_default.ensures.touched c.self.invariant.3)

pub invariant_of-self-2 : goal.invariant_of-self-2
invariant_of-self-2 g c =
    kept_written _ _ _ _ _ _ _ _ _ _ (rw (← c.stored.view_is) at c.in-Some.ensures.value) (in_time_none _ _) (λ is. is) c.in-Some.ensures.touched
    c.self.invariant
