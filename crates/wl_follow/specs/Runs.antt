-- Calls of a follower, one after another.
use Rattle.std.specs.Prelude.{◌≡◌, ℕ, ◌+◌, ◌-◌, List, [], ◌∷◌, length, take}
use Rattle.wl_wire.specs.Message.{WireMessage}
use Rattle.wl_wire.specs.Table.{InterfaceRow}
use Rattle.wl_link.specs.Exchange.{Queue, joined, nothing}
use Rattle.wl_follow.specs.Following.{FollowState, Tells, Turns, came_from, released_to, sent, taken_back}
use Rattle.wl_follow.specs.Sent.{last_part}
use Rattle.wl_follow.specs.declared.follower.Stretch.{Stretch}
use Rattle.wl_follow.specs.declared.follower.Told.{Told}
use Rattle.wl_follow.specs.declared.side.Side.{Side}
use Rattle.wl_follow.specs.declared.side.Side.TheVariants.{Client, Server}

-- a call of a follower, with what it was given and what came of it
pub data Call : Type 0 where
  -- this side sent this
  Came : (side : Side) (came : Queue) → Call
  -- so many bytes and tokens of what this side sent last were to be taken back, and this was
  TookBack : (side : Side) (bytes tokens : ℕ) (taken : Queue) → Call
  -- all but the last `left` bytes of that side were released
  Released : (side : Side) (left : ℕ) → Call
  -- this was told by this table, of this piece of what its side sent
  TookOut : (table : List InterfaceRow) (told : Told) (m : WireMessage) (piece : Queue) → Call
  -- nothing was told by this table
  TookNothing : (table : List InterfaceRow) → Call

-- what a call does
abbrev pub Does : FollowState → Call → FollowState → Type 0
Does before (Came side came) after = after ≡ came_from side came before
Does before (TookBack side bytes tokens taken) after =
    (taken ≡ last_part bytes tokens (sent side before)) × (after ≡ taken_back side bytes tokens before)
Does before (Released side left) after = after ≡ released_to side left before
Does before (TookOut table told m piece) after = Tells table before told m piece after
Does before (TookNothing table) after = (stretches : List Stretch) × Turns table before stretches after

-- the calls lead from one state of the follower to another
abbrev pub Leads : FollowState → List Call → FollowState → Type 0
Leads before [] after = after ≡ before
Leads before (c ∷ calls) after = (mid : FollowState) × Does before c mid × Leads mid calls after

-- this, if the sides are the same
abbrev pub from_side : Side → Side → Queue → Queue
from_side Client Client q = q
from_side Server Server q = q
from_side _ _ _ = nothing

-- without its last part
abbrev pub without_last : Queue → Queue → Queue
without_last taken q =
    record { bytes = take (length q.bytes - length taken.bytes) q.bytes; tokens = take (length q.tokens - length taken.tokens) q.tokens }

-- what the side sent, with a call, if it sent `q` before
abbrev pub came_by : Side → Queue → Call → Queue
came_by side q (Came by came) = joined q (from_side side by came)
came_by side q (TookBack by bytes tokens taken) = without_last (from_side side by taken) q
came_by side q _ = q

-- the same with calls one after another
abbrev pub came_behind : Side → Queue → List Call → Queue
came_behind side q [] = q
came_behind side q (c ∷ calls) = came_behind side (came_by side q c) calls

-- all that the side sent, and that was not taken back
abbrev pub all_came : Side → List Call → Queue
all_came side calls = came_behind side nothing calls

-- what was told of the side in a call
abbrev pub told_in : Side → Call → Queue
told_in side (TookOut table told m piece) = from_side side told.side piece
told_in side _ = nothing

-- all that was told of it
abbrev pub all_told : Side → List Call → Queue
all_told side [] = nothing
all_told side (c ∷ calls) = joined (told_in side c) (all_told side calls)

-- how many bytes of the side have their turn still to come
abbrev pub own_count : Side → Side → ℕ → ℕ
own_count Client Client n = n
own_count Server Server n = n
own_count _ _ _ = 0

abbrev pub count_of : Side → List Stretch → ℕ
count_of side [] = 0
count_of side (stretch ∷ order) = own_count side stretch.side stretch.count + count_of side order
