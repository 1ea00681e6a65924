-- Lists that are written to lent memory, as far as it has room.
use Rattle.std.specs.Prelude.{◌≡◌, ℕ, ◌+◌, ◌++◌, List, length, take, drop, min, nat_lt, if◌then◌else◌, slice_set}
use Rattle.wl_flat.specs.Flat.{count_number}
use Rattle.wl_flat.specs.declared.status.Status.{Status}
use Rattle.wl_flat.specs.declared.status.Status.TheVariants as status

-- the items in the first places of the lent memory, as many as there is room for
abbrev pub filled : {X : Type 0} → List X → List X → List X
filled items lent = take (length lent) items ++ drop (length items) lent

-- whether there is room for all
abbrev pub room_for : ℕ → ℕ → Status
room_for count room = if nat_lt room count then status.TooSmall else status.Ok

-- all items are told
pub record Lists {X : Type 0} (items before after : List X) (count : ℕ) (s : Status) : Type 0 where
  pub written : after ≡ filled items before
  pub counted : count ≡ count_number (length items)
  pub told : s ≡ room_for (length items) (length before)

-- ---- item by item

-- the item at that place, if there is one
abbrev pub with_next : {X : Type 0} → List X → ℕ → X → List X
with_next lent n x = if nat_lt n (length lent) then slice_set lent n x else lent

abbrev pub next_count : ℕ → ℕ
next_count n = min (n + 1) 18446744073709551615
