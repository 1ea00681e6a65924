use Rattle.std.proofs.Common.{◌∙◌, Ok, Err, List, [], false, refl, ap}
use Rattle.wl_link.specs.Exchange.{Queue}
use Rattle.wl_link.specs.Script.{Script}
use Rattle.wl_server_model.specs.Moves.{Moved, TakeSent, taken}
use Rattle.wl_server_client.specs.Stored.{Stored, no_times}
use Rattle.wl_server_client.proofs.CallSteps.Numbers.{in_time_same}
use Rattle.wl_server_model.proofs.CallSteps.Numbering.{numbered_at, numbers_stay}
use Rattle.wl_server.proofs.CallSteps.OneClient.{done_to, none_stored}
use Rattle.wl_server_model.proofs.CallSteps.Moved.{moved, moves}
use Rattle.wl_server_model.proofs.CleanupSteps.Taken.{slots_set}
use Rattle.wl_server.proofs.runs.script.Backend+Memory+U+G+C.take_sent.Goals as goal

pub returns-in_default : goal.returns-in_default
returns-in_default g c = rw (← c.self.view_is)
    (none_stored _ _ _ _ refl c.args.id.now (moves TakeSent (taken (Err _))) _
    (λ i l d b a h. (_, refl, h)) _ refl c.in_default.ensures.value refl c.self.invariant.2)

abbrev emptied : Script → Script
emptied s = record s { sent = [] }

pub returns : goal.returns
returns g c =
    let sent = c.take_sent.ensures.taken ∙ ap (λ (s : Script). s.sent) c.transport_mut.ensures.value in
    rw (← c.self.view_is)
    (done_to _ _ _ _ refl c.args.id.now (moves TakeSent (taken (Ok c.take_sent.result))) _ (λ i l d b a h. (_, refl, h))
    _ c.in-Some.client.now _ false refl c.in-Some.ensures.value
    (rw (← c.client.view_is)
    (moved TakeSent (taken (Ok c.take_sent.result)) c.args.id.now
    (record { serial = _; part = _; made = _; times = no_times }) false c.take_sent.new.self refl
    (ap (λ (l : List Queue). let r : Moved = Ok l in r) sent, (c.take_sent.ensures.rest ∙ ap emptied c.transport_mut.ensures.value)))) _
    (in_time_same _ _ _ _ (ap (λ (s : Stored _ _ _). s.times) c.client.view_is) refl) (λ is. rw (← c.client.view_is) at is) c.self.invariant.2)

pub invariant_of-self : goal.invariant_of-self
invariant_of-self g c = (c.self.invariant.0, c.self.invariant.1, c.self.invariant.2, c.in_default.ensures.touched c.self.invariant.3)

pub invariant_of-self-2 : goal.invariant_of-self-2
invariant_of-self-2 g c = (
  slots_set _ _ _ _ _ c.self.invariant.0,
  numbers_stay _ _ _ _ _ c.in-Some.ensures.value (ap (λ (s : Stored _ _ _). s.times) c.client.view_is) c.self.invariant.1,
  numbered_at _ _ _ _ c.in-Some.ensures.value (λ is. rw (← c.client.view_is) at is) c.self.invariant.2,
  c.in-Some.ensures.touched c.self.invariant.3 _,
)
