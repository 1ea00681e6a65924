-- Slots in an order, each once at most.
use Rattle.std.specs.Prelude.{◌≡◌, ◌≤◌, ℕ, ◌+◌, List, [], ◌∷◌, Bool, not, false, nat_lt, if◌then◌else◌}
use Rattle.std.specs.List.{count_by, slice_index_or}
use Rattle.wl_host.specs.Seats.{added, is_among}

-- the slots, in order, and how many slots there is room for
pub record Slots : Type 0 where
  pub slots : List ℕ
  pub room : ℕ

-- the slot is one of them, if there is room for it
abbrev pub with_slot : Slots → ℕ → Slots
with_slot q slot = record { slots = if nat_lt slot q.room then added slot q.slots else q.slots; room = q.room }

-- no slot stands there twice
abbrev pub AllOnce : List ℕ → Type 0
AllOnce [] = Unit {0}
AllOnce (k ∷ ks) = (is_among k ks ≡ false) × AllOnce ks

-- Each slot that is not among them can be added without memory; the flags say which are among them; and none is twice.
pub record AreSlots (count capacity : ℕ) (slots : List ℕ) (flags : List Bool) : Type 0 where
  pub fits : count + count_by not flags ≤ capacity
  pub told : (k : ℕ) → is_among k slots ≡ slice_index_or flags k false
  pub once : AllOnce slots
