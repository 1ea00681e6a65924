use Rattle.std.proofs.Common.{false, refl, ap}
use Rattle.wl_server_client.proofs.CallSteps.Numbers.{in_time_same}
use Rattle.wl_server_model.proofs.OverRuns.Cut.CuttingLaws.{histories_cut}
use Rattle.wl_server.proofs.CallSteps.OneClient.{done_to, none_stored}
use Rattle.wl_server_model.proofs.Plain.Actions.{ends_bind, bind_returns}
use Rattle.wl_server_client.specs.Stored.{Stored}
use Rattle.wl_server.proofs.CallSteps.Kept.{kept_written, with_data}
use Rattle.wl_server.proofs.backend.Backend.finish_bind_returning.Goals as goal

pub returns-in_default : goal.returns-in_default
returns-in_default g c = with_data (ends_bind _ _ _) (λ call. (call.step, histories_cut _ _ _ _)) (λ plain. refl) (rw (← c.self.view_is)
    (none_stored _ _ _ _ refl c.args.client.now _ _ (λ i l d b a h. (_, refl, h)) _ refl c.in_default.ensures.value refl c.self.invariant.2))

pub returns : goal.returns
returns g c = rw (← c.self.view_is)
    (with_data (ends_bind _ _ _) (λ call. (call.step, histories_cut _ _ _ _)) (bind_returns _ _ c.args.client.now c.in-Some.stored.now
    c.finish_bind.new.self c.in-Some.ensures.value (ap (λ (s : Stored _ _ _). s.serial) c.finish_bind.ensures.done.3) refl c.args.user_data
    c.finish_bind.result c.finish_bind.ensures.back) (done_to _ _ _ _ refl c.args.client.now _ _ (λ i l d b a h. (_, refl, h)) _ c.in-Some.stored.now
    c.finish_bind.new.self false refl c.in-Some.ensures.value c.finish_bind.ensures.done _ (in_time_same _ _ _ _ c.finish_bind.ensures.times refl)
    c.finish_bind.ensures.numbered c.self.invariant.2))

pub invariant_of-self : goal.invariant_of-self
invariant_of-self g c = (c.self.invariant.0, c.self.invariant.1, c.self.invariant.2, c.in_default.ensures.touched c.self.invariant.3)

pub invariant_of-self-2 : goal.invariant_of-self-2
invariant_of-self-2 g c = kept_written _ _ _ _ _ _ _ _ _ _ c.in-Some.ensures.value (in_time_same _ _ _ _ c.finish_bind.ensures.times refl)
    c.finish_bind.ensures.numbered c.in-Some.ensures.touched c.self.invariant
