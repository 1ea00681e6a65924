-- Queues of events that wait, and what each call does to them.
use Rattle.std.specs.Prelude.{◌≡◌, ℕ, ◌+◌, ◌<◌, ◌==◌, Bool, true, false, if◌then◌else◌, List, [], ◌∷◌, ◌++◌, Option, None, Some, All, drop, remove, option_and_then, slice_get, unwrap_or}
use Rattle.std.specs.Option.{option_map}
use Rattle.std.specs.List.{position}
use Rattle.wl_queues.specs.declared.events.Event.{Event}
use Rattle.wl_queues.specs.declared.events.Held.{Held}
use Rattle.wl_queues.specs.declared.events.Reason.{Reason}
use Rattle.wl_queues.specs.declared.objects.Fate.{Fate}
use Rattle.wl_queues.specs.declared.objects.Fate.TheVariants.{Alive, Destroyed, Free}
use Rattle.wl_queues.specs.declared.objects.Object.{Object}
use Rattle.wl_queues.specs.Events.{NamesLive, has_ticket, reason_against, times_named}
use Rattle.wl_queues.specs.Objects.{is_alive, left_by, nobody, with_destroyed, with_new, with_object, with_queue}

-- The objects by their slots; how many queues were made, which of them were dropped, and the events that wait in each, the oldest
-- first; the events that were handed out and not finished, and how many were handed out at all; and whether the session failed.
pub record QueuesState (E : Type 0) : Type 0 where
  pub objects : ℕ → Object
  pub queues : ℕ
  pub is_dropped : ℕ → Bool
  pub waiting : ℕ → List (Event E)
  pub in_hand : List (Held E)
  pub tickets : ℕ
  pub failed : Bool

module _ {E : Type 0} where
  -- the queue is there, and was not dropped
  pub record IsOpen (s : QueuesState E) (queue : ℕ) : Type 0 where
    pub made : queue < s.queues
    pub kept : s.is_dropped queue ≡ false

  -- no event that waits or is in hand names the object
  pub record IsUnnamed (s : QueuesState E) (o : ℕ) : Type 0 where
    pub waiting : (queue : ℕ) → All (λ e. times_named o e ≡ 0) (s.waiting queue)
    pub in_hand : All (λ h. times_named o h.event ≡ 0) s.in_hand

  -- the program destroyed the object, and nothing names it any more
  pub record IsUnused (s : QueuesState E) (o : ℕ) : Type 0 where
    pub destroyed : (s.objects o).fate ≡ Destroyed
    pub unnamed : IsUnnamed s o

  -- two states are alike
  pub record IsAlike (s t : QueuesState E) : Type 0 where
    pub objects : (o : ℕ) → t.objects o ≡ s.objects o
    pub queues : t.queues ≡ s.queues
    pub is_dropped : (queue : ℕ) → t.is_dropped queue ≡ s.is_dropped queue
    pub waiting : (queue : ℕ) → t.waiting queue ≡ s.waiting queue
    pub in_hand : t.in_hand ≡ s.in_hand
    pub tickets : t.tickets ≡ s.tickets
    pub failed : t.failed ≡ s.failed

-- an object, unless it was destroyed
abbrev pub if_alive : ℕ → Fate → Option ℕ
if_alive o Free = None
if_alive o Alive = Some o
if_alive o Destroyed = None

module _ {E : Type 0} where
  -- an event waits in the queue
  abbrev pub is_some_event : List (Event E) → Bool
  is_some_event [] = false
  is_some_event (e ∷ later) = true

  abbrev pub has_events : QueuesState E → ℕ → Bool
  has_events s queue = is_some_event (s.waiting queue)

  -- no event in hand has this ticket
  abbrev pub HasNoTicket : QueuesState E → ℕ → Type 0
  HasNoTicket s ticket = position (has_ticket ticket) s.in_hand ≡ None

  -- the queue that the sender of the event has
  abbrev pub queue_of : QueuesState E → Event E → ℕ
  queue_of s e = (s.objects e.sender).queue

  -- the event in hand with this ticket
  abbrev pub event_of : QueuesState E → ℕ → Option (Event E)
  event_of s ticket = option_and_then (λ i. option_map (λ h. h.event) (slice_get s.in_hand i)) (position (has_ticket ticket) s.in_hand)

  -- an object among the arguments of the event in hand, as the host sees it
  abbrev pub argument_of : QueuesState E → ℕ → ℕ → Option ℕ
  argument_of s ticket place =
      option_and_then (λ e. option_and_then (λ o. if_alive o (s.objects o).fate) (slice_get e.arguments.items place)) (event_of s ticket)

-- what becomes of an event that leaves its queue: it is handed out with a ticket, or dropped for a reason
pub data Outcome : Type 0 where
  Handed : (ticket : ℕ) → Outcome
  Dropped : (reason : Reason) → Outcome

-- the outcome of an event that was the first in its queue
abbrev pub outcome_by : ℕ → Option Reason → Outcome
outcome_by ticket None = Handed ticket
outcome_by ticket (Some reason) = Dropped reason

-- how many tickets are given out
abbrev pub tickets_in : Outcome → ℕ
tickets_in (Handed ticket) = 1
tickets_in (Dropped reason) = 0

-- A call that changes something, with what it answered: a new queue, a dropped one, a new object in a slot with its content, another
-- queue for an object's later events, an object that is destroyed, an event that comes into a queue, one that leaves it, the end of
-- one that is in hand, the failing of the session, and an object that is told unused, with its content.
pub data Call (E : Type 0) : Type 0 where
  NewQueue : (queue : ℕ) → Call E
  DropQueue : (queue : ℕ) → Call E
  Add : (object : ℕ) (queue : ℕ) (content : ℕ) → Call E
  SetQueue : (object : ℕ) (queue : ℕ) → Call E
  Destroy : (object : ℕ) → Call E
  Put : (queue : ℕ) (event : Event E) → Call E
  Next : (queue : ℕ) (event : Event E) (outcome : Outcome) → Call E
  Finish : (ticket : ℕ) (event : Event E) → Call E
  Fail : Call E
  NextUnused : (object : ℕ) (content : ℕ) → Call E

module _ {E : Type 0} where
  -- at one queue the events are these, and at the others as they were
  abbrev pub with_waiting : ℕ → List (Event E) → (ℕ → List (Event E)) → ℕ → List (Event E)
  with_waiting queue events waiting other = if other == queue then events else waiting other

  abbrev pub outcome_of : QueuesState E → ℕ → Event E → Outcome
  outcome_of s queue e = outcome_by s.tickets (reason_against s.failed (s.is_dropped queue) (is_alive (s.objects e.sender).fate))

  -- the event comes into the queue that its sender has
  abbrev pub put_of : QueuesState E → Event E → Call E
  put_of s e = Put (queue_of s e) e

  -- in hand is also what was handed out
  abbrev pub handed : Outcome → Event E → List (Held E)
  handed (Handed ticket) e = record { ticket = ticket; event = e } ∷ []
  handed (Dropped reason) e = []

  -- the place of the event in hand with this ticket
  abbrev pub place_of : ℕ → List (Held E) → ℕ
  place_of ticket in_hand = unwrap_or (position (has_ticket ticket) in_hand) 0

  -- when a call answers so
  abbrev pub Answers : QueuesState E → Call E → Type 0
  Answers s (NewQueue queue) = queue ≡ s.queues
  Answers s (DropQueue queue) = IsOpen s queue × (0 < queue)
  Answers s (Add object queue content) = ((s.objects object).fate ≡ Free) × IsOpen s queue
  Answers s (SetQueue object queue) = ((s.objects object).fate ≡ Alive) × IsOpen s queue
  Answers s (Destroy object) = (s.objects object).fate ≡ Alive
  Answers s (Put queue e) = NamesLive s.objects e × (queue ≡ queue_of s e)
  Answers s (Next queue e outcome) = ((later : List (Event E)) × (s.waiting queue ≡ e ∷ later)) × (outcome ≡ outcome_of s queue e)
  Answers s (Finish ticket e) = (i : ℕ) × (position (has_ticket ticket) s.in_hand ≡ Some i) × (slice_get s.in_hand i ≡ Some (record { ticket = ticket; event = e }))
  Answers s Fail = Unit {0}
  Answers s (NextUnused object content) = IsUnused s object × (content ≡ (s.objects object).content)

  -- the state after a call
  abbrev pub after : QueuesState E → Call E → QueuesState E
  after s (NewQueue queue) = record s { queues = s.queues + 1 }
  after s (DropQueue queue) = record s { objects = λ o. left_by queue (s.objects o); is_dropped = λ q. if q == queue then true else s.is_dropped q }
  after s (Add object queue content) = record s { objects = with_new object queue content s.objects }
  after s (SetQueue object queue) = record s { objects = with_queue object queue s.objects }
  after s (Destroy object) = record s { objects = with_destroyed object s.objects }
  after s (Put queue e) = record s { waiting = with_waiting queue (s.waiting queue ++ e ∷ []) s.waiting }
  after s (Next queue e outcome) = record s {
    waiting = with_waiting queue (drop 1 (s.waiting queue)) s.waiting;
    in_hand = s.in_hand ++ handed outcome e;
    tickets = s.tickets + tickets_in outcome;
  }
  after s (Finish ticket e) = record s { in_hand = remove s.in_hand (place_of ticket s.in_hand) }
  after s Fail = record s { failed = true }
  after s (NextUnused object content) = record s { objects = with_object object nobody s.objects }

  -- what a call does that answers so
  pub record Does (s : QueuesState E) (c : Call E) (t : QueuesState E) : Type 0 where
    pub answers : Answers s c
    pub leaves : IsAlike (after s c) t
