use Rattle.std.proofs.Common.{false, refl}
use Rattle.wl_server.proofs.CallSteps.Kept.{kept_written, with_plain}
use Rattle.wl_server.proofs.CallSteps.OneClient.{done_to, none_stored}
use Rattle.wl_server_model.proofs.Plain.Clients.{kills_client}
use Rattle.wl_server.proofs.backend.Backend.kill_client.Goals as goal

pub returns-in_default : goal.returns-in_default
returns-in_default g c = with_plain (kills_client _ _) (rw (← c.self.view_is)
    (none_stored _ _ _ _ refl c.args.id.now _ _ (λ i l d b a h. (refl, h)) _ refl c.in_default.ensures.value tt c.self.invariant.2))

pub returns : goal.returns
returns g c =
    let (did, q, does, is) = c.kill.ensures.killed in
    with_plain (kills_client _ _) (rw (← c.self.view_is)
    (done_to _ _ _ _ refl c.args.id.now _ _ (λ i l d b a h. (refl, h)) _ c.in-Some.client.now c.kill.new.self false refl c.in-Some.ensures.value
    (did, q, (refl, does), is) _ c.kill.ensures.in_time c.kill.ensures.numbered c.self.invariant.2))

pub invariant_of-self : goal.invariant_of-self
invariant_of-self g c = (c.self.invariant.0, c.self.invariant.1, c.self.invariant.2, c.in_default.ensures.touched c.self.invariant.3)

pub invariant_of-self-2 : goal.invariant_of-self-2
invariant_of-self-2 g c =
    kept_written _ _ _ _ _ _ _ _ _ _ c.in-Some.ensures.value c.kill.ensures.in_time c.kill.ensures.numbered c.in-Some.ensures.touched c.self.invariant
