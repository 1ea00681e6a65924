use Rattle.std.proofs.Common.{arith, refl}
use Rattle.wl_server_model.proofs.CallSteps.Feeling.{felt_call}
use Rattle.wl_server.proofs.CallSteps.Kept.{kept_felt, kept_written, with_plain}
use Rattle.wl_server_model.proofs.CallSteps.Numbering.{all_same}
use Rattle.wl_server_client.proofs.CallSteps.Numbers.{in_time_same}
use Rattle.wl_server.proofs.CallSteps.OneClient.{done_to, none_stored}
use Rattle.wl_server_model.proofs.Plain.Clients.{flushes_clients}
use Rattle.wl_server.proofs.backend.Backend.flush.Goals as goal

pub returns-in_default : goal.returns-in_default
returns-in_default g c = with_plain (flushes_clients _ _) (rw (← c.self.view_is, c.in_default.is)
    (felt_call _ _ _ _ (record { last = refl; client = λ b. tt; order = tt; room = λ b. tt; notes = λ b a h. h }) _ c.flush_live-self-inside.result _
    c.flush_live-self-inside.new.clients.items _ refl tt refl (λ i l d b a h. (_, refl, (refl, h))) c.flush_live-self-inside.ensures.felt
    (all_same _ _ _ c.flush_live-self-inside.ensures.times) (c.flush_live-self-inside.ensures.numbered c.self.invariant.2)))

pub invariant_of-self : goal.invariant_of-self
invariant_of-self g c =
    let all = c.flush_live-self-inside.ensures in
    kept_felt _ _ _ _ _ _ _ _ _ _ _ (omega (arith, all.felt.len, c.self.inside.clients.ok.0, c.flush_live-self-inside.new.clients.ok.0)) all.felt
    (all_same _ _ _ all.times) all.numbered (λ are. record { sent = all.sent; quiet = all.quiet _ are.quiet }) c.self.invariant

pub returns-in_default-stored_mut : goal.returns-in_default-stored_mut
returns-in_default-stored_mut g c = with_plain (flushes_clients _ _) (rw (← c.self.view_is, c.in-Some.is)
    (none_stored _ _ _ _ refl c.in-Some.id _ _ (λ i l d b a h. (_, refl, h)) _ refl c.in_default-stored_mut.ensures.value refl c.self.invariant.2))

pub returns : goal.returns
returns g c = with_plain (flushes_clients _ _) (rw (← c.self.view_is, c.in-Some.is, c.is_out_of_memory-self-inside.ensures)
    (done_to _ _ _ _ refl c.in-Some.id _ _ (λ i l d b a h. (_, refl, h)) _ c.in-Some-stored_mut.client.now c.flush-answer.new.self _ refl
    c.in-Some-stored_mut.ensures.value c.flush-answer.ensures.flushed _ (in_time_same _ _ _ _ c.flush-answer.ensures.times refl)
    c.flush-answer.ensures.numbered c.self.invariant.2))

pub invariant_of-self-in_default-stored_mut : goal.invariant_of-self-in_default-stored_mut
invariant_of-self-in_default-stored_mut g c =
    (c.self.invariant.0, c.self.invariant.1, c.self.invariant.2, c.in_default-stored_mut.ensures.touched c.self.invariant.3)

pub invariant_of-self-2 : goal.invariant_of-self-2
invariant_of-self-2 g c = kept_written _ _ _ _ _ _ _ _ _ _ c.in-Some-stored_mut.ensures.value (in_time_same _ _ _ _ c.flush-answer.ensures.times refl)
    c.flush-answer.ensures.numbered c.in-Some-stored_mut.ensures.touched c.self.invariant
