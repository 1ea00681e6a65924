-- Events, and which objects they name.
use Rattle.std.specs.Prelude.{◌≡◌, ℕ, ◌+◌, ◌==◌, Bool, true, false, if◌then◌else◌, List, [], ◌∷◌, ◌++◌, Option, None, Some, All}
use Rattle.std.specs.List.{count_by}
use Rattle.wl_queues.specs.declared.events.Event.{Event}
use Rattle.wl_queues.specs.declared.events.Held.{Held}
use Rattle.wl_queues.specs.declared.events.Reason.{Reason}
use Rattle.wl_queues.specs.declared.events.Reason.TheVariants.{QueueDropped, SenderDestroyed, SessionFailed}
use Rattle.wl_queues.specs.declared.objects.Fate.TheVariants.{Alive}
use Rattle.wl_queues.specs.declared.objects.Object.{Object}

-- how often an object is in a list of objects
abbrev pub times_in : ℕ → List ℕ → ℕ
times_in o objects = count_by (λ n. n == o) objects

module _ {E : Type 0} where
  -- how often an event names an object: as its sender, and as an argument
  abbrev pub times_named : ℕ → Event E → ℕ
  times_named o e = (if e.sender == o then 1 else 0) + times_in o e.arguments.items

  -- each object that the event names is there, and not destroyed
  pub record NamesLive (objects : ℕ → Object) (e : Event E) : Type 0 where
    pub sender : (objects e.sender).fate ≡ Alive
    pub arguments : All (λ o. (objects o).fate ≡ Alive) e.arguments.items

  -- behind these events comes this one
  abbrev pub IsAppended : List (Event E) → Event E → List (Event E) → Type 0
  IsAppended events e more = more ≡ events ++ e ∷ []

  -- the first of these events is for this object
  abbrev pub IsFirstSender : ℕ → List (Event E) → Type 0
  IsFirstSender o events = (e : Event E) × (later : List (Event E)) × (events ≡ e ∷ later) × (o ≡ e.sender)

  abbrev pub has_ticket : ℕ → Held E → Bool
  has_ticket ticket h = h.ticket == ticket

-- why an event is not handed out, if it is not
abbrev pub reason_against : Bool → Bool → Bool → Option Reason
reason_against true is_dropped is_alive = Some SessionFailed
reason_against false true is_alive = Some QueueDropped
reason_against false false true = None
reason_against false false false = Some SenderDestroyed
