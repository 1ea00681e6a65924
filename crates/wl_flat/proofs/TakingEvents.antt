-- The event that leaves a queue is told as it comes out.

use Rattle.std.proofs.Common.{◌≡◌, ℕ, IfOk, Option, Result, Ok, option_map, refl, sym, subst, ap, ◌∙◌}
use Rattle.wl_queues.specs.declared.events.Event.{Event}
use Rattle.wl_queues.specs.declared.events.Reason.{Reason}
use Rattle.wl_queues.specs.declared.queues.Next.{Next}
use Rattle.wl_queues.specs.declared.queues.Next.TheVariants as next
use Rattle.wl_queues.specs.declared.queues.NextError.{NextError}
use Rattle.wl_queues.specs.Nexts.{Nexts}
use Rattle.wl_queues.specs.Queues.{Dropped, Handed, QueuesState, event_of}
use Rattle.wl_flat.specs.declared.event_queues.EventQueues.{EventQueues}
use Rattle.wl_flat.specs.declared.event_queues.FlatQueuedEvent.{FlatQueuedEvent}
use Rattle.wl_flat.specs.declared.status.Status.{Status}
use Rattle.wl_flat.specs.Status.{found}
use Rattle.wl_flat.specs.EventQueues.{Takes, flat_dropped, flat_handed, now_in}

-- in hand, and looked up by its ticket
pub takes_handed : (before after : EventQueues) (queue ticket : ℕ) (told : Result FlatQueuedEvent Status)
    → Nexts (now_in before) queue (next.Handed ticket) (now_in after)
    → told ≡ found (option_map (flat_handed ticket) (event_of (now_in after) ticket)) → Takes queue before told after
takes_handed before after queue ticket told (e, does, is) said =
    subst (λ (r : Result FlatQueuedEvent Status). Takes queue before r after)
    (sym (said ∙ ap (λ (o : Option (Event ℕ)). found (option_map (flat_handed ticket) o)) is)) (e, Handed ticket, does, is, refl)

-- dropped
pub takes_dropped : (before after : EventQueues) (queue : ℕ) (reason : Reason) (e : Event ℕ) (told : FlatQueuedEvent)
    → Nexts (now_in before) queue (next.Dropped reason e) (now_in after) → told ≡ flat_dropped reason e → Takes queue before (Ok told) after
takes_dropped before after queue reason e told does said = (e, Dropped reason, does, tt, said)

-- what an answer says of what comes
pub coming : (s t : QueuesState ℕ) (queue : ℕ) (answer : Result (Next ℕ) NextError) (n m : Next ℕ) → answer ≡ Ok n → n ≡ m
    → IfOk answer (λ n. Nexts s queue n t) → Nexts s queue m t
coming s t queue answer n m is same h =
    subst (λ (x : Next ℕ). Nexts s queue x t) same (subst (λ (r : Result (Next ℕ) NextError). IfOk r (λ x. Nexts s queue x t)) is h)
