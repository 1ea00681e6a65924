-- What contracts see of queues.
use Rattle.std.specs.Prelude.{◌≡◌, ℕ, length}
use Rattle.wl_queues.specs.declared.objects.Fate.TheVariants.{Alive}
use Rattle.wl_queues.specs.declared.objects.Object.{Object}
use Rattle.wl_queues.specs.declared.queues.Queues.{Queues}
use Rattle.wl_queues.specs.Queues.{Call, Does, IsAlike, QueuesState}
use Rattle.wl_queues.specs.Inside.Counts.{dropped_at, waiting_at}
use Rattle.wl_queues.specs.Inside.Objects.{object_of}

abbrev pub state_of : {E : Type 0} → Queues E → QueuesState E
state_of q = record {
  objects = λ o. object_of q.objects o;
  queues = length q.queues.items;
  is_dropped = λ n. dropped_at q.queues.items n;
  waiting = λ n. waiting_at q.queues.items n;
  in_hand = q.in_hand.items;
  tickets = q.tickets;
  failed = q.failed;
}

-- the objects, by their slots
abbrev pub all_objects : {E : Type 0} → Queues E → ℕ → Object
all_objects q = (state_of q).objects

-- the slot has an object that is not destroyed
abbrev pub IsLive : {E : Type 0} → Queues E → ℕ → Type 0
IsLive q o = (all_objects q o).fate ≡ Alive

-- a call that answered so did what it does
abbrev pub Calls : {E : Type 0} → Queues E → Call E → Queues E → Type 0
Calls old c new = Does (state_of old) c (state_of new)

-- nothing changed
abbrev pub IsUnchanged : {E : Type 0} → Queues E → Queues E → Type 0
IsUnchanged old new = IsAlike (state_of old) (state_of new)
