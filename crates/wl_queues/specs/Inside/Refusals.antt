-- Why an event is not put into a queue.
use Rattle.std.specs.Prelude.{ℕ, ◌+◌, ◌-◌, nat_le, not, Bool, if◌then◌else◌, length, Option, None, Some}
use Rattle.std.specs.List.{list_all}
use Rattle.wl_queues.specs.declared.events.Event.{Event}
use Rattle.wl_queues.specs.declared.objects.Object.{Object}
use Rattle.wl_queues.specs.declared.queues.PutError.{PutError}
use Rattle.wl_queues.specs.declared.queues.PutError.TheVariants.{NoObject, OutOfMemory}
use Rattle.wl_queues.specs.Objects.{is_alive}

-- the object can be referred to so often more
abbrev pub has_room : (ℕ → ℕ) → ℕ → ℕ → Bool
has_room references more o = nat_le (references o) (0xFFFFFFFFFFFFFFFF - more)

abbrev pub refusal_of : {E : Type 0} → (ℕ → Object) → (ℕ → ℕ) → Event E → Option PutError
refusal_of objects references e =
    if not (is_alive (objects e.sender).fate) then Some NoObject
    else (if not (list_all (λ o. is_alive (objects o).fate) e.arguments.items) then Some NoObject
    else (if not (has_room references (length e.arguments.items + 1) e.sender) then Some OutOfMemory
    else (if not (list_all (λ o. has_room references (length e.arguments.items + 1) o) e.arguments.items) then Some OutOfMemory
    else None)))
