-- All objects, as functions of their slots.
use Rattle.std.specs.Prelude.{◌≡◌, ℕ, ◌+◌, ◌<◌, ◌≤◌, ◌==◌, ◌&&◌, Bool, if◌then◌else◌, List, [], ◌∷◌, ◌++◌, Option, option_map, option_to_list, All, length}
use Rattle.wl_queues.specs.declared.events.Event.{Event}
use Rattle.wl_queues.specs.declared.objects.Fate.TheVariants.{Alive, Destroyed, Free}
use Rattle.wl_queues.specs.declared.objects.Object.{Object}
use Rattle.wl_queues.specs.declared.objects.Objects.{Objects}
use Rattle.wl_queues.specs.declared.objects.UnusedObject.{UnusedObject}
use Rattle.wl_queues.specs.Events.{times_named}
use Rattle.wl_queues.specs.Inside.Slots.{slot_at}
use Rattle.wl_queues.specs.Objects.{is_destroyed, with_new}

abbrev pub object_of : Objects → ℕ → Object
object_of objects o = (slot_at objects.slots.items o).object

abbrev pub references_of : Objects → ℕ → ℕ
references_of objects o = (slot_at objects.slots.items o).references

-- each object is as this function says
abbrev pub ObjectsAre : Objects → (ℕ → Object) → Type 0
ObjectsAre objects are = (o : ℕ) → object_of objects o ≡ are o

-- no object changes
abbrev pub KeepsObjects : Objects → Objects → Type 0
KeepsObjects old new = (o : ℕ) → object_of new o ≡ object_of old o

-- each object is referred to as often as before
abbrev pub KeepsReferences : Objects → Objects → Type 0
KeepsReferences old new = (o : ℕ) → references_of new o ≡ references_of old o

-- each object is referred to so many times more
abbrev pub AddsReferences : Objects → Objects → (ℕ → ℕ) → Type 0
AddsReferences old new times = (o : ℕ) → references_of new o ≡ references_of old o + times o

-- each object is referred to so many times less
abbrev pub TakesReferences : Objects → Objects → (ℕ → ℕ) → Type 0
TakesReferences old new times = (o : ℕ) → references_of new o + times o ≡ references_of old o

-- once for this object, and not at all for each other
abbrev pub once_for : ℕ → ℕ → ℕ
once_for object other = if other == object then 1 else 0

-- the object can be referred to so many times more
abbrev pub HasRoom : Objects → ℕ → ℕ → Type 0
HasRoom objects more o = references_of objects o + more ≤ 0xFFFFFFFFFFFFFFFF

abbrev pub IsLiveIn : Objects → ℕ → Type 0
IsLiveIn objects o = (object_of objects o).fate ≡ Alive

-- the object is destroyed, and nothing refers to it
abbrev pub IsUnreferred : Objects → ℕ → Type 0
IsUnreferred objects o = ((object_of objects o).fate ≡ Destroyed) × (references_of objects o ≡ 0)

-- each object that is destroyed is referred to
abbrev pub AreAllReferred : Objects → Type 0
AreAllReferred objects = (o : ℕ) → (object_of objects o).fate ≡ Destroyed → 0 < references_of objects o

-- a new object of the queue, with this content, is in this slot
abbrev pub AddsObject : Objects → ℕ → ℕ → ℕ → Objects → Type 0
AddsObject old queue content o new = ObjectsAre new (with_new o queue content (object_of old))

-- the slot is there, and is free
abbrev pub IsFreeSlot : Objects → ℕ → Type 0
IsFreeSlot objects o = (o < length objects.slots.items) × ((object_of objects o).fate ≡ Free)

-- the slot that was freed last is used again, if one is free
abbrev pub UsesFreedSlot : Objects → ℕ → Type 0
UsesFreedSlot objects o = IsFreeSlot objects objects.first_free → o ≡ objects.first_free

-- the objects that are unused, the one first that became so first
abbrev pub unused_of : Objects → List ℕ
unused_of objects = objects.unused.items

-- the one that became so first is taken out of them
abbrev pub TakesOldest : Objects → Option UnusedObject → Objects → Type 0
TakesOldest old taken new = unused_of old ≡ option_to_list (option_map (λ u. u.object) taken) ++ unused_of new

-- the object comes behind them, if this is so
abbrev pub ListsUnused : Objects → Bool → ℕ → Objects → Type 0
ListsUnused old is_unused object new = unused_of new ≡ unused_of old ++ (if is_unused then object ∷ [] else [])

-- nothing refers to the object but once, and it is destroyed
abbrev pub is_last_reference : Objects → ℕ → Bool
is_last_reference objects o = is_destroyed (object_of objects o).fate && (references_of objects o == 1)

module _ {E : Type 0} where
  -- each object among the arguments can be referred to as often as the event may name it
  abbrev pub ArgumentsHaveRoom : Objects → Event E → Type 0
  ArgumentsHaveRoom objects e = All (λ o. HasRoom objects (length e.arguments.items + 1) o) e.arguments.items

  -- each object is referred to so many times more as the event names it
  abbrev pub AddsNames : Objects → Event E → Objects → Type 0
  AddsNames old e new = AddsReferences old new (λ o. times_named o e)
