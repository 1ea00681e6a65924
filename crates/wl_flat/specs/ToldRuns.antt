-- What becomes of what is told of a connection, in calls of its session one after another. The peer is the other side.
use Rattle.std.specs.Prelude.{◌≡◌, ◌⊎◌, ◌≤◌, ℕ, ℤ, ◌+◌, ◌-◌, ◌++◌, true, List, [], ◌∷◌, length, max, Option, None, Some, Result, Ok, Err, if◌then◌else◌}
use Rattle.wl_wire.specs.declared.argument.Token.{Token}
use Rattle.wl_wire.specs.declared.error.OutOfMemory.{OutOfMemory}
use Rattle.wl_wire.specs.declared.message.Message.{Message}
use Rattle.wl_wire.specs.Message.{content}
use Rattle.wl_wire.specs.Table.{InterfaceRow}
use Rattle.wl_link.specs.Exchange.{Queue, joined, nothing}
use Rattle.wl_link.specs.Mailbox.{behind, front}
use Rattle.wl_follow.specs.Following.{FollowState, Tells, TellsNone, Turns, sent}
use Rattle.wl_follow.specs.Runs.{from_side}
use Rattle.wl_follow.specs.Sent.{SentState}
use Rattle.wl_follow.specs.Sides.{other_side}
use Rattle.wl_follow.specs.declared.follower.Stretch.{Stretch}
use Rattle.wl_follow.specs.declared.follower.Told.{Told}
use Rattle.wl_follow.specs.declared.side.Side.{Side}
use Rattle.wl_flat.specs.Flat.{none_told}
use Rattle.wl_flat.specs.Status.{is_done}
use Rattle.wl_flat.specs.Told.{CatchesUp, HandsTold, LentTold, as_tokens, came_in, left_off, new_telling, said_part}
use Rattle.wl_flat.specs.declared.status.Status.{Status}
use Rattle.wl_flat.specs.declared.status.Status.TheVariants as status
use Rattle.wl_flat.specs.declared.telling.Telling.{Telling}

-- what is told of the connection; and what waits in the mailbox to be sent, with the descriptors as tokens
pub record Watched : Type 0 where
  pub telling : Telling
  pub waiting : Queue

-- nothing went over it yet
abbrev pub new_watched : Watched
new_watched = record { telling = new_telling; waiting = nothing }

-- what a call of the session comes to for a connection whose messages are told
pub data Deed : Type 0 where
  -- these arrived
  Heard : (bytes : List ℕ) (descriptors : List ℤ) → Deed
  -- what is told caught up with the session, which had not read so many bytes; or there was no memory for all of it
  CaughtUp : (unread : ℕ) (result : Result (Unit {0}) OutOfMemory) → Deed
  -- this was put into the mailbox, behind what waits there
  Wrote : (more : Queue) → Deed
  -- it caught up, and then so many of the bytes that wait were sent, with all tokens if that is a byte at least: this
  SentOff : (unread n : ℕ) (sent : Queue) → Deed
  -- The follower told this by this table, of this piece of what its side sent. The status says whether it was handed out; else it is kept.
  Found : (table : List InterfaceRow) (found : Told × Message ℕ Token) (piece : Queue) (lent : LentTold) (s : Status) (lent' : LentTold) → Deed
  -- what was kept came again, and was handed out or is kept
  FoundAgain : (found : Told × Message ℕ Token) (lent : LentTold) (s : Status) (lent' : LentTold) → Deed
  -- by this table nothing was left to be told
  FoundNone : (table : List InterfaceRow) → Deed
  -- there was no memory to tell more by this table
  LackedMemory : (table : List InterfaceRow) → Deed

abbrev pub Does : Side → Watched → Deed → Watched → Type 0
Does peer before (Heard bytes descriptors) after = after ≡ record before { telling = came_in peer bytes descriptors before.telling }
Does peer before (CaughtUp unread result) after =
    (t : Telling) × CatchesUp peer unread before.waiting before.telling result t × (after ≡ record before { telling = t })
Does peer before (Wrote more) after = after ≡ record before { waiting = joined before.waiting more }
Does peer before (SentOff unread n sent) after =
    (t : Telling) × CatchesUp peer unread before.waiting before.telling (Ok tt) t × (sent ≡ front n before.waiting)
    × (after ≡ record { telling = left_off n t; waiting = behind n before.waiting })
Does peer before (Found table found piece lent s lent') after =
    (f : FollowState) × (t : Telling) × (before.telling.kept ≡ None) × Tells table before.telling.follower found.0 (content found.1) piece f
    × HandsTold (record before.telling { follower = f }) found lent s lent' t × (after ≡ record before { telling = t })
Does peer before (FoundAgain found lent s lent') after =
    (t : Telling) × (before.telling.kept ≡ Some found) × HandsTold (record before.telling { kept = None }) found lent s lent' t
    × (after ≡ record before { telling = t })
Does peer before (FoundNone table) after =
    (f : FollowState) × (before.telling.kept ≡ None) × TellsNone table before.telling.follower f
    × (after ≡ record before { telling = record before.telling { follower = f } })
Does peer before (LackedMemory table) after =
    (f : FollowState) × (before.telling.kept ≡ None) × ((stretches : List Stretch) × Turns table before.telling.follower stretches f)
    × (after ≡ record before { telling = record before.telling { follower = f } })

-- the calls lead from one state to another
abbrev pub Leads : Side → Watched → List Deed → Watched → Type 0
Leads peer before [] after = after ≡ before
Leads peer before (d ∷ run) after = (mid : Watched) × Does peer before d mid × Leads peer mid run after

-- ---- what was heard, sent and told

abbrev pub heard_in : Deed → Queue
heard_in (Heard bytes descriptors) = record { bytes = bytes; tokens = as_tokens descriptors }
heard_in _ = nothing

abbrev pub sent_in : Deed → Queue
sent_in (SentOff unread n sent) = sent
sent_in _ = nothing

-- the piece that was told of the side
abbrev pub told_in : Side → Deed → Queue
told_in side (Found table found piece lent s lent') = from_side side found.0.side piece
told_in side _ = nothing

-- what the follower told, and what was handed out
abbrev pub found_in : Deed → List (Told × Message ℕ Token)
found_in (Found table found piece lent s lent') = found ∷ []
found_in _ = []

abbrev pub handed_if : Status → Told × Message ℕ Token → List (Told × Message ℕ Token)
handed_if s found = if is_done s then found ∷ [] else []

abbrev pub handed_in : Deed → List (Told × Message ℕ Token)
handed_in (Found table found piece lent s lent') = handed_if s found
handed_in (FoundAgain found lent s lent') = handed_if s found
handed_in _ = []

-- what is kept
abbrev pub list_of : Option (Told × Message ℕ Token) → List (Told × Message ℕ Token)
list_of None = []
list_of (Some found) = found ∷ []

abbrev pub kept_in : Telling → List (Told × Message ℕ Token)
kept_in t = list_of t.kept

-- ---- in all calls

abbrev pub all_heard : List Deed → Queue
all_heard [] = nothing
all_heard (d ∷ run) = joined (heard_in d) (all_heard run)

abbrev pub all_sent : List Deed → Queue
all_sent [] = nothing
all_sent (d ∷ run) = joined (sent_in d) (all_sent run)

abbrev pub all_told : Side → List Deed → Queue
all_told side [] = nothing
all_told side (d ∷ run) = joined (told_in side d) (all_told side run)

abbrev pub all_found : List Deed → List (Told × Message ℕ Token)
all_found [] = []
all_found (d ∷ run) = found_in d ++ all_found run

abbrev pub all_handed : List Deed → List (Told × Message ℕ Token)
all_handed [] = []
all_handed (d ∷ run) = handed_in d ++ all_handed run

-- ---- how much of the peer was read

-- Of a peer of which so many bytes were heard, and so many of them read: how many are read as what is told catches up with the session.
-- These are all that were heard, but for those that were not read then.
abbrev pub read_in : ℕ → ℕ → Deed → ℕ
read_in heard read (CaughtUp unread result) = max read (heard - unread)
read_in heard read (SentOff unread n sent) = max read (heard - unread)
read_in heard read _ = read

abbrev pub read_behind : ℕ → ℕ → List Deed → ℕ
read_behind heard read [] = read
read_behind heard read (d ∷ run) = read_behind (heard + length (heard_in d).bytes) (read_in heard read d) run

abbrev pub all_read : List Deed → ℕ
all_read run = read_behind 0 0 run

-- ---- nothing is left to be told

-- Of a side that is followed all that was released has had its turn: nothing of it waits for the other side. That is all but the last
-- `unread` bytes of what is untold.
abbrev pub HadItsTurn : ℕ → SentState → Type 0
HadItsTurn unread s = s.is_followed ≡ true → (s.ready ≡ s.released) × (length s.bytes ≤ s.ready + unread)

-- So it is of the peer, of which so many bytes were not read, and of the session's side, of which all is seen that waits in the mailbox.
pub record NothingWaits (peer : Side) (unread : ℕ) (w : Watched) : Type 0 where
  pub order : w.telling.follower.order ≡ []
  pub heard : HadItsTurn unread (sent peer w.telling.follower)
  pub said : HadItsTurn 0 (sent (other_side peer) w.telling.follower)
  pub mailbox : said_part w.waiting w.telling ≡ w.waiting

-- ---- a call that tells the next message

-- What was found by this table, with this answer: a message, which is handed out or kept; or that nothing is left; or there was no memory.
abbrev pub IsFound : List InterfaceRow → LentTold → Status → LentTold → Deed → Type 0
IsFound table lent s lent' (Found t found piece l s1 l1) =
    (t ≡ table) × (l ≡ lent) × (s1 ≡ s) × (l1 ≡ lent') × ((s ≡ status.Ok) ⊎ (s ≡ status.TooSmall))
IsFound table lent s lent' (FoundAgain found l s1 l1) = (l ≡ lent) × (s1 ≡ s) × (l1 ≡ lent') × ((s ≡ status.Ok) ⊎ (s ≡ status.TooSmall))
IsFound table lent s lent' (FoundNone t) = (t ≡ table) × (s ≡ status.WouldBlock) × (lent' ≡ record lent { out = none_told })
IsFound table lent s lent' (LackedMemory t) = (t ≡ table) × (s ≡ status.OutOfMemory) × (lent' ≡ record lent { out = none_told })
IsFound table lent s lent' _ = ⊥

-- The deeds of a call that tells the next message, with this answer: what is told catches up with the session, which had not read so many
-- bytes, and then something is found. Without memory it ends with the first.
abbrev pub AreTold : List InterfaceRow → ℕ → LentTold → Status → LentTold → List Deed → Type 0
AreTold table unread lent s lent' (CaughtUp n (Ok done) ∷ d ∷ []) = (n ≡ unread) × IsFound table lent s lent' d
AreTold table unread lent s lent' (CaughtUp n (Err e) ∷ []) = (n ≡ unread) × (s ≡ status.OutOfMemory) × (lent' ≡ record lent { out = none_told })
AreTold table unread lent s lent' _ = ⊥
