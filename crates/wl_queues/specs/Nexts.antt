-- What comes out of a queue, as a call.
use Rattle.std.specs.Prelude.{◌≡◌, ℕ, ◌<◌, List, [], ◌∷◌, Some}
use Rattle.wl_queues.specs.declared.events.Event.{Event}
use Rattle.wl_queues.specs.declared.queues.Next.{Next}
use Rattle.wl_queues.specs.declared.queues.Next.TheVariants.{Dropped, Handed, Nothing}
use Rattle.wl_queues.specs.Queues.{Does, IsAlike, QueuesState, event_of, outcome_of}
use Rattle.wl_queues.specs.Queues as call

-- Nothing is there, and nothing changes; or the first event leaves the queue. It is handed out with the next ticket, which names it
-- then, or dropped.
abbrev pub Nexts : {E : Type 0} → QueuesState E → ℕ → Next E → QueuesState E → Type 0
Nexts s queue Nothing t = (s.waiting queue ≡ []) × IsAlike s t
Nexts {E} s queue (Handed ticket) t =
    (e : Event E) × Does s (call.Next queue e (call.Handed ticket)) t × (event_of t ticket ≡ Some e)
Nexts s queue (Dropped reason e) t = Does s (call.Next queue e (call.Dropped reason)) t

-- The first event of the queue is to be handed out: it is not to be dropped.
abbrev pub HandsNext : {E : Type 0} → QueuesState E → ℕ → Type 0
HandsNext {E} s queue =
    (e : Event E) × (later : List (Event E)) × (s.waiting queue ≡ e ∷ later) × (outcome_of s queue e ≡ call.Handed s.tickets)

-- It is, and each ticket was given out.
abbrev pub LacksTicket : {E : Type 0} → QueuesState E → ℕ → Type 0
LacksTicket s queue = HandsNext s queue × (s.tickets ≡ 0xFFFFFFFFFFFFFFFF)

-- It is, and a ticket is left, so that it needs a place among those in hand.
abbrev pub NeedsPlace : {E : Type 0} → QueuesState E → ℕ → Type 0
NeedsPlace s queue = HandsNext s queue × (s.tickets < 0xFFFFFFFFFFFFFFFF)
