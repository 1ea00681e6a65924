-- What the functions that keep ids of objects that left their numbers say to each other.
use Rattle.std.specs.Prelude.{◌≡◌, ◌<◌, true}
use Rattle.std.specs.VecDeque.{deque_capacity, deque_len}
use Rattle.wl_client.specs.declared.freed.Freed.{Freed}

-- there is room for one more id, if they are kept
abbrev pub HasPlace : Freed → Type 0
HasPlace freed = freed.kept ≡ true → deque_len freed.ids < deque_capacity freed.ids

-- whether ids are kept, and those that wait, are as before
abbrev pub FreedStays : Freed → Freed → Type 0
FreedStays before after = (after.kept ≡ before.kept) × (after.ids.items ≡ before.ids.items)
