use Rattle.std.proofs.Common.{refl}
use Rattle.wl_server.proofs.CallSteps.Kept.{kept_written, with_plain}
use Rattle.wl_server.proofs.CallSteps.OneClient.{done_to, none_stored}
use Rattle.wl_server_model.proofs.Plain.Objects.{destroys_object}
use Rattle.wl_server.proofs.backend.Backend.destroy_object.Goals as goal

pub returns-in_default : goal.returns-in_default
returns-in_default g c = with_plain (destroys_object _ _) (rw (← c.self.view_is)
    (none_stored _ _ _ _ refl c.args.id.now.client _ _ (λ i l d b a h. (_, refl, h)) _ c.client-client.ensures c.in_default.ensures.value refl
    c.self.invariant.2))

pub returns : goal.returns
returns g c = with_plain (destroys_object _ _) (rw (← c.self.view_is, c.lacks_memory-self-inside.ensures)
    (done_to _ _ _ _ refl c.args.id.now.client _ _ (λ i l d b a h. (_, refl, h)) _ c.in-Some.client.now c.destroy_object-answer.new.self _
    c.client-client.ensures c.in-Some.ensures.value c.destroy_object-answer.ensures.does
    _ c.destroy_object-answer.ensures.in_time c.destroy_object-answer.ensures.numbered c.self.invariant.2))

pub invariant_of-self : goal.invariant_of-self
invariant_of-self g c = (c.self.invariant.0, c.self.invariant.1, c.self.invariant.2, c.in_default.ensures.touched c.self.invariant.3)

pub invariant_of-self-2 : goal.invariant_of-self-2
invariant_of-self-2 g c = kept_written _ _ _ _ _ _ _ _ _ _ c.in-Some.ensures.value c.destroy_object-answer.ensures.in_time
    c.destroy_object-answer.ensures.numbered c.in-Some.ensures.touched c.self.invariant
