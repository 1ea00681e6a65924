-- How often each object is named, by the events that wait and by those in hand.
use Rattle.std.specs.Prelude.{◌≡◌, ℕ, ◌+◌, ◌<◌, Bool, false, List, [], All, length, get_or, map}
use Rattle.std.specs.List.{sum_by}
use Rattle.wl_queues.specs.declared.events.Event.{Event}
use Rattle.wl_queues.specs.declared.events.Held.{Held}
use Rattle.wl_queues.specs.declared.objects.Slot.{Slot}
use Rattle.wl_queues.specs.declared.queues.Queue.{Queue}
use Rattle.wl_queues.specs.Events.{times_named}
use Rattle.wl_queues.specs.Inside.Slots.{slot_at}

module _ {E : Type 0} where
  abbrev pub events_of : Queue E → List (Event E)
  events_of queue = queue.events.items

  abbrev pub is_gone : Queue E → Bool
  is_gone queue = queue.is_dropped

  -- the events that wait in the queue with this number
  abbrev pub waiting_at : List (Queue E) → ℕ → List (Event E)
  waiting_at queues n = get_or (map events_of queues) n []

  abbrev pub dropped_at : List (Queue E) → ℕ → Bool
  dropped_at queues n = get_or (map is_gone queues) n false

  abbrev pub named_by_queue : ℕ → Queue E → ℕ
  named_by_queue o queue = sum_by (times_named o) queue.events.items

  abbrev pub named_by_held : ℕ → Held E → ℕ
  named_by_held o held = times_named o held.event

  abbrev pub named_waiting : ℕ → List (Queue E) → ℕ
  named_waiting o queues = sum_by (named_by_queue o) queues

  abbrev pub named_in_hand : ℕ → List (Held E) → ℕ
  named_in_hand o in_hand = sum_by (named_by_held o) in_hand

  -- Each object is referred to as often as it is named, and its events wait in a queue that is there.
  pub record IsCounted (slots : List Slot) (queues : List (Queue E)) (in_hand : List (Held E)) : Type 0 where
    pub each : (o : ℕ) → (slot_at slots o).references ≡ named_waiting o queues + named_in_hand o in_hand
    pub placed : (o : ℕ) → (slot_at slots o).object.queue < length queues

  -- Each event in hand has a ticket that was given out.
  abbrev pub AreGivenOut : List (Held E) → ℕ → Type 0
  AreGivenOut in_hand tickets = All (λ h. h.ticket < tickets) in_hand
