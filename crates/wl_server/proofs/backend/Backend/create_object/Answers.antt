use Rattle.std.proofs.Common.{refl}
use Rattle.wl_server.proofs.CallSteps.Kept.{kept_written, with_plain}
use Rattle.wl_server_client.proofs.CallSteps.Numbers.{in_time_same}
use Rattle.wl_server.proofs.CallSteps.OneClient.{done_to, none_stored}
use Rattle.wl_server_model.proofs.Plain.Objects.{creates_object}
use Rattle.wl_server.proofs.backend.Backend.create_object.Goals as goal

pub returns-in_default : goal.returns-in_default
returns-in_default g c = with_plain (creates_object _ _ _ _ _) (rw (← c.self.view_is)
    (none_stored _ _ _ _ refl c.args.client.now _ _ (λ i l d b a h. (_, refl, h)) _ refl c.in_default.ensures.value refl c.self.invariant.2))

pub returns : goal.returns
returns g c =
    let (did, q, (none, creates), is) = c.create_object-answer.ensures.does in
    with_plain (creates_object _ _ _ _ _) (rw (← c.self.view_is)
    (done_to _ _ _ _ refl c.args.client.now _ _ (λ i l d b a h. (_, refl, h)) _ c.in-Some.stored.now c.create_object-answer.new.self
    c.lacks_memory-self-inside.result refl c.in-Some.ensures.value (did, q, (c.lacks_memory-self-inside.ensures, none, creates), is)
    _ (in_time_same _ _ _ _ c.create_object-answer.ensures.times refl) c.create_object-answer.ensures.numbered c.self.invariant.2))

pub invariant_of-self : goal.invariant_of-self
invariant_of-self g c = (c.self.invariant.0, c.self.invariant.1, c.self.invariant.2, c.in_default.ensures.touched c.self.invariant.3)

pub invariant_of-self-2 : goal.invariant_of-self-2
invariant_of-self-2 g c = kept_written _ _ _ _ _ _ _ _ _ _ c.in-Some.ensures.value (in_time_same _ _ _ _ c.create_object-answer.ensures.times refl)
    c.create_object-answer.ensures.numbered c.in-Some.ensures.touched c.self.invariant
