use Rattle.std.proofs.Common.{is_some, refl, arith}
use Rattle.std.proofs.lemmas.Grind.{common_steps}
use Rattle.std.specs.Option.{option_map}
use Rattle.wl_server_client.specs.Errors.{PostsError}
use Rattle.wl_server_client.specs.Posted.{PostsOn}
use Rattle.wl_server.proofs.CallSteps.Kept.{kept_written}
use Rattle.wl_server.proofs.CallSteps.OneClient.{done_to, none_stored}
use Rattle.wl_server_model.proofs.ObjectCalls.Told.{at_slot}
use Rattle.wl_server_model.proofs.Plain.Clients.{kills_for_error}
use Rattle.wl_server.proofs.backend.Backend.post_error.Goals as goal

exactly_too : {A B E : Type 0} → (A → B) → E → A → record { call : A; plain : B; exactly : E }
exactly_too plain exactly call = record { call = call; plain = plain call; exactly = exactly }

pub returns-in_default : goal.returns-in_default
returns-in_default g c = exactly_too (kills_for_error _ _ _) (grind (arith, common_steps, is_some, option_map)) (rw (← c.self.view_is)
    (none_stored _ _ _ _ refl c.args.id.now.client _ _ (λ i l d b a h. (refl, h)) _ c.client-client.ensures c.in_default.ensures.value tt c.self.invariant.2))

pub returns : goal.returns
returns g c = exactly_too (kills_for_error _ _ _)
    (rw (← c.self.view_is) (at_slot (λ p q. PostsOn g.T.Transport.sends p c.args.id.now c.args.code c.args.text c.post_error-self-inside.result q)
    c.self.inside.clients.items c.args.id.now.client _ c.in-Some.client.now c.post_error-self-inside.new.self
    (λ p did q. PostsError g.T.Transport.sends c.self.inside.protocol p c.args.id.now c.args.code c.args.text c.post_error-self-inside.result did q)
    c.client-client.ensures c.in-Some.ensures.value c.post_error-self-inside.ensures.does c.post_error-self-inside.ensures.exactly))
    (rw (← c.self.view_is) (done_to _ _ _ _ refl c.args.id.now.client _ _ (λ i l d b a h. (refl, h)) _ c.in-Some.client.now
    c.post_error-self-inside.new.self c.post_error-self-inside.result c.client-client.ensures c.in-Some.ensures.value
    c.post_error-self-inside.ensures.does _ c.post_error-self-inside.ensures.in_time c.post_error-self-inside.ensures.numbered c.self.invariant.2))

pub invariant_of-self : goal.invariant_of-self
invariant_of-self g c = (c.self.invariant.0, c.self.invariant.1, c.self.invariant.2, c.in_default.ensures.touched c.self.invariant.3)

pub invariant_of-self-2 : goal.invariant_of-self-2
invariant_of-self-2 g c = kept_written _ _ _ _ _ _ _ _ _ _ c.in-Some.ensures.value c.post_error-self-inside.ensures.in_time
    c.post_error-self-inside.ensures.numbered c.in-Some.ensures.touched c.self.invariant
