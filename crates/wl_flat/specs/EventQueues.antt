-- Queues of events as a host drives them: what each call does, in the words of the queues, and with which status it refuses.
use Rattle.std.specs.Prelude.{◌≡◌, ◌⊎◌, ℕ, ◌<◌, ◌≤◌, List, [], All, Some, length, Result, Ok, Err}
use Rattle.wl_queues.specs.declared.events.Event.{Event}
use Rattle.wl_queues.specs.declared.events.Reason.{Reason}
use Rattle.wl_queues.specs.declared.events.Reason.TheVariants.{QueueDropped, SenderDestroyed, SessionFailed}
use Rattle.wl_queues.specs.declared.objects.Fate.{Fate}
use Rattle.wl_queues.specs.declared.objects.Fate.TheVariants.{Alive, Destroyed, Free}
use Rattle.wl_queues.specs.declared.objects.Object.{Object}
use Rattle.wl_queues.specs.declared.objects.UnusedObject.{UnusedObject}
use Rattle.wl_queues.specs.Nexts.{LacksTicket, NeedsPlace}
use Rattle.wl_queues.specs.Queues.{Add, Destroy, DropQueue, Dropped, Finish, Handed, HasNoTicket, IsOpen, IsUnused, NewQueue, Next, NextUnused, Outcome, QueuesState, SetQueue, event_of, put_of}
use Rattle.wl_queues.specs.States.{Calls, IsLive, IsUnchanged, state_of}
use Rattle.wl_flat.specs.declared.event_queues.EventQueues.{EventQueues}
use Rattle.wl_flat.specs.declared.event_queues.FlatQueuedEvent.{FlatQueuedEvent}
use Rattle.wl_flat.specs.declared.event_queues.FlatQueuedObject.{FlatQueuedObject}
use Rattle.wl_flat.specs.declared.status.Status.{Status}
use Rattle.wl_flat.specs.declared.status.Status.TheVariants as status

abbrev pub now_in : EventQueues → QueuesState ℕ
now_in q = state_of q.core

-- ---- flat structs

abbrev pub number_of_reason : Reason → ℕ
number_of_reason SessionFailed = 1
number_of_reason QueueDropped = 2
number_of_reason SenderDestroyed = 3

abbrev pub number_of_fate : Fate → ℕ
number_of_fate Free = 0
number_of_fate Alive = 1
number_of_fate Destroyed = 2

-- an event that is in hand with this ticket
abbrev pub flat_handed : ℕ → Event ℕ → FlatQueuedEvent
flat_handed ticket e = record { ticket = ticket; content = e.content; sender = e.sender; arguments = length e.arguments.items; outcome = 0 }

-- an event that is dropped
abbrev pub flat_dropped : Reason → Event ℕ → FlatQueuedEvent
flat_dropped reason e =
    record { ticket = 0; content = e.content; sender = e.sender; arguments = length e.arguments.items; outcome = number_of_reason reason }

abbrev pub flat_out : Outcome → Event ℕ → FlatQueuedEvent
flat_out (Handed ticket) e = flat_handed ticket e
flat_out (Dropped reason) e = flat_dropped reason e

abbrev pub flat_object : Object → FlatQueuedObject
flat_object o = record { queue = o.queue; content = o.content; fate = number_of_fate o.fate }

-- ---- queues

-- a queue is made; or there is no memory for it
abbrev pub MakesQueue : EventQueues → Result ℕ Status → EventQueues → Type 0
MakesQueue before (Ok queue) after = Calls before.core (NewQueue queue) after.core
MakesQueue before (Err s) after = IsUnchanged before.core after.core × (s ≡ status.OutOfMemory)

-- the queue is dropped; or it is not there, or is the default queue
abbrev pub DropsQueue : ℕ → EventQueues → Result (Unit {0}) Status → EventQueues → Type 0
DropsQueue queue before (Ok u) after = Calls before.core (DropQueue queue) after.core
DropsQueue queue before (Err s) after =
    IsUnchanged before.core after.core × (s ≡ status.NoQueue) × ((queue ≡ 0) ⊎ ¬ IsOpen (now_in before) queue)

-- ---- objects

-- why an object is not added
abbrev pub RefusesToAdd : ℕ → EventQueues → Status → Type 0
RefusesToAdd queue before status.NoQueue = ¬ IsOpen (now_in before) queue
RefusesToAdd queue before status.OutOfMemory = ¬ ¬ IsOpen (now_in before) queue
RefusesToAdd queue before _ = ⊥

abbrev pub Adds : ℕ → ℕ → EventQueues → Result ℕ Status → EventQueues → Type 0
Adds queue content before (Ok object) after = Calls before.core (Add object queue content) after.core
Adds queue content before (Err s) after = IsUnchanged before.core after.core × RefusesToAdd queue before s

-- why the queue of an object is not set
abbrev pub RefusesToSet : ℕ → ℕ → EventQueues → Status → Type 0
RefusesToSet object queue before status.InvalidId = ¬ IsLive before.core object
RefusesToSet object queue before status.NoQueue = ¬ IsOpen (now_in before) queue × ¬ ¬ IsLive before.core object
RefusesToSet object queue before _ = ⊥

abbrev pub SetsQueue : ℕ → ℕ → EventQueues → Result (Unit {0}) Status → EventQueues → Type 0
SetsQueue object queue before (Ok u) after = Calls before.core (SetQueue object queue) after.core
SetsQueue object queue before (Err s) after = IsUnchanged before.core after.core × RefusesToSet object queue before s

-- the object is destroyed; or it is not there, or was destroyed before
abbrev pub Destroys : ℕ → EventQueues → Result (Unit {0}) Status → EventQueues → Type 0
Destroys object before (Ok u) after = Calls before.core (Destroy object) after.core
Destroys object before (Err s) after = IsUnchanged before.core after.core × (s ≡ status.InvalidId) × ¬ IsLive before.core object

-- an object is told unused, with its content; or none is
abbrev pub TellsUnused : EventQueues → Result UnusedObject Status → EventQueues → Type 0
TellsUnused before (Ok u) after = Calls before.core (NextUnused u.object u.content) after.core
TellsUnused before (Err s) after =
    IsUnchanged before.core after.core × (s ≡ status.WouldBlock) × ((o : ℕ) → ¬ IsUnused (now_in before) o)

-- ---- events

-- an event for this object, with these objects among its arguments and this content
pub record IsEventOf (object : ℕ) (objects : List ℕ) (number : ℕ) (e : Event ℕ) : Type 0 where
  pub sender : e.sender ≡ object
  pub arguments : e.arguments.items ≡ objects
  pub content : e.content ≡ number

-- each of them is there, and not destroyed
pub record AreLive (q : EventQueues) (object : ℕ) (objects : List ℕ) : Type 0 where
  pub sender : IsLive q.core object
  pub arguments : All (IsLive q.core) objects

-- why an event is not put
abbrev pub RefusesToPut : ℕ → List ℕ → EventQueues → Status → Type 0
RefusesToPut sender arguments before status.InvalidId = ¬ AreLive before sender arguments
RefusesToPut sender arguments before status.OutOfMemory = Unit {0}
RefusesToPut sender arguments before _ = ⊥

abbrev pub Puts : ℕ → List ℕ → ℕ → EventQueues → Result (Unit {0}) Status → EventQueues → Type 0
Puts sender arguments content before (Ok u) after =
    (e : Event ℕ) × IsEventOf sender arguments content e × Calls before.core (put_of (now_in before) e) after.core
Puts sender arguments content before (Err s) after = IsUnchanged before.core after.core × RefusesToPut sender arguments before s

-- the ticket of an event that is handed out names it
abbrev pub IsNamed : Outcome → Event ℕ → EventQueues → Type 0
IsNamed (Handed ticket) e after = event_of (now_in after) ticket ≡ Some e
IsNamed (Dropped reason) e after = Unit {0}

-- why no event is taken out of a queue
abbrev pub RefusesToTake : ℕ → EventQueues → Status → Type 0
RefusesToTake queue before status.WouldBlock = (queue < (now_in before).queues) × ((now_in before).waiting queue ≡ [])
RefusesToTake queue before status.NoQueue = (now_in before).queues ≤ queue
RefusesToTake queue before status.SerialsExhausted = LacksTicket (now_in before) queue
RefusesToTake queue before status.OutOfMemory = NeedsPlace (now_in before) queue
RefusesToTake queue before _ = ⊥

-- the first event leaves the queue, and is told with what becomes of it
abbrev pub Takes : ℕ → EventQueues → Result FlatQueuedEvent Status → EventQueues → Type 0
Takes queue before (Ok out) after =
    (e : Event ℕ) × (outcome : Outcome) × Calls before.core (Next queue e outcome) after.core × IsNamed outcome e after × (out ≡ flat_out outcome e)
Takes queue before (Err s) after = IsUnchanged before.core after.core × RefusesToTake queue before s

-- an event in hand ends, and its content is told; or none has the ticket
abbrev pub Finishes : ℕ → EventQueues → Result ℕ Status → EventQueues → Type 0
Finishes ticket before (Ok content) after = (e : Event ℕ) × Calls before.core (Finish ticket e) after.core × (content ≡ e.content)
Finishes ticket before (Err s) after = IsUnchanged before.core after.core × (s ≡ status.InvalidId) × HasNoTicket (now_in before) ticket
