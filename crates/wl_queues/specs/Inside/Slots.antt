-- What is kept of each object, and which objects are unused.
use Rattle.std.specs.Prelude.{◌≡◌, ℕ, ◌+◌, ◌≤◌, ◌==◌, ◌&&◌, ◌||◌, not, Bool, true, List, [], ◌∷◌, get_or}
use Rattle.std.specs.List.{count_by, list_any}
use Rattle.std.specs.VecDeque.{deque_capacity, deque_len}
use Rattle.std.specs.declared.collections.VecDeque.{VecDeque}
use Rattle.wl_queues.specs.declared.objects.Slot.{Slot}
use Rattle.wl_queues.specs.Objects.{is_alive, is_destroyed, nobody}

abbrev pub no_slot : Slot
no_slot = record { object = nobody; references = 0; next = 0 }

abbrev pub slot_at : List Slot → ℕ → Slot
slot_at slots o = get_or slots o no_slot

-- the object is destroyed, and nothing refers to it
abbrev pub is_unused : Slot → Bool
is_unused s = is_destroyed s.object.fate && (s.references == 0)

-- the object may become unused
abbrev pub is_pending : Slot → Bool
is_pending s = is_alive s.object.fate || (is_destroyed s.object.fate && not (s.references == 0))

abbrev pub is_in : ℕ → List ℕ → Bool
is_in o slots = list_any (λ n. n == o) slots

abbrev pub are_distinct : List ℕ → Bool
are_distinct [] = true
are_distinct (o ∷ slots) = not (is_in o slots) && are_distinct slots

-- The list has each object that is unused, once, and no other. It has room for each that may become so.
pub record IsListed {A : Type 0} (slots : List Slot) (unused : VecDeque ℕ A) : Type 0 where
  pub each : (o : ℕ) → is_in o unused.items ≡ is_unused (slot_at slots o)
  pub once : are_distinct unused.items ≡ true
  pub room : deque_len unused + count_by is_pending slots ≤ deque_capacity unused
