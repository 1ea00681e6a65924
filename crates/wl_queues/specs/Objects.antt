-- Objects, each in its slot: in which queue its events wait, what has become of it, and the content with which it was added.
use Rattle.std.specs.Prelude.{ℕ, ◌==◌, Bool, true, false, if◌then◌else◌, Option, None, Some}
use Rattle.wl_queues.specs.declared.objects.Fate.{Fate}
use Rattle.wl_queues.specs.declared.objects.Fate.TheVariants.{Alive, Destroyed, Free}
use Rattle.wl_queues.specs.declared.objects.Object.{Object}
use Rattle.wl_queues.specs.declared.objects.UnusedObject.{UnusedObject}

-- what a slot has that no object has
abbrev pub nobody : Object
nobody = record { queue = 0; fate = Free; content = 0 }

abbrev pub is_alive : Fate → Bool
is_alive Free = false
is_alive Alive = true
is_alive Destroyed = false

abbrev pub is_destroyed : Fate → Bool
is_destroyed Free = false
is_destroyed Alive = false
is_destroyed Destroyed = true

-- the object in a slot changes, and no other
abbrev pub with_object : ℕ → Object → (ℕ → Object) → ℕ → Object
with_object slot x objects other = if other == slot then x else objects other

-- a new object of the queue, with this content
abbrev pub alive_in : ℕ → ℕ → Object
alive_in queue content = record { queue = queue; fate = Alive; content = content }

abbrev pub destroyed : Object → Object
destroyed x = record { queue = x.queue; fate = Destroyed; content = x.content }

abbrev pub in_queue : ℕ → Object → Object
in_queue queue x = record { queue = queue; fate = x.fate; content = x.content }

-- a new object of the queue, with this content, is in this slot
abbrev pub with_new : ℕ → ℕ → ℕ → (ℕ → Object) → ℕ → Object
with_new object queue content objects = with_object object (alive_in queue content) objects

-- the object has this queue
abbrev pub with_queue : ℕ → ℕ → (ℕ → Object) → ℕ → Object
with_queue object queue objects = with_object object (in_queue queue (objects object)) objects

-- the object is destroyed
abbrev pub with_destroyed : ℕ → (ℕ → Object) → ℕ → Object
with_destroyed object objects = with_object object (destroyed (objects object)) objects

-- objects of a queue that is dropped have the default queue
abbrev pub left_by : ℕ → Object → Object
left_by queue x = if x.queue == queue then in_queue 0 x else x

-- the slot of the object, if there is one, is free again
abbrev pub given_up : Option UnusedObject → (ℕ → Object) → ℕ → Object
given_up None objects = objects
given_up (Some u) objects = with_object u.object nobody objects
