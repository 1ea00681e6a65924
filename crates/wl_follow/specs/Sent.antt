-- What a side sent, and was not told yet.
use Rattle.std.specs.Prelude.{ℕ, ◌-◌, ◌+◌, Bool, false, true, List, [], ◌++◌, drop, length, max, min, take, if◌then◌else◌}
use Rattle.wl_wire.specs.declared.argument.ArgumentType.{ArgumentType}
use Rattle.wl_wire.specs.declared.argument.Token.{Token}
use Rattle.wl_wire.specs.Parse.{fd_count, length_of}
use Rattle.wl_link.specs.Exchange.{Queue}

-- The bytes and tokens that were not told; how many of the bytes may be told now, and how many once it is their turn; and whether
-- the side is followed.
pub record SentState : Type 0 where
  pub bytes : List ℕ
  pub tokens : List Token
  pub ready : ℕ
  pub released : ℕ
  pub is_followed : Bool

-- nothing was sent yet
abbrev pub nothing_sent : SentState
nothing_sent = record { bytes = []; tokens = []; ready = 0; released = 0; is_followed = true }

-- what was sent and not told
abbrev pub untold : SentState → Queue
untold s = record { bytes = s.bytes; tokens = s.tokens }

-- what may be told now
abbrev pub ready_part : SentState → Queue
ready_part s = record { bytes = take s.ready s.bytes; tokens = s.tokens }

-- this is sent, too; of a side that is not followed nothing is kept
abbrev pub more_sent : List ℕ → List Token → SentState → SentState
more_sent bytes tokens s = if s.is_followed then (record s { bytes = s.bytes ++ bytes; tokens = s.tokens ++ tokens }) else s

-- so many of the bytes stay if so many are taken back: those that were released do
abbrev pub left_bytes : ℕ → SentState → ℕ
left_bytes bytes s = max s.released (length s.bytes - bytes)

-- The last bytes and tokens, so many, are taken back; but no byte that was released. Of a side that is not followed nothing was kept.
abbrev pub less_sent : ℕ → ℕ → SentState → SentState
less_sent bytes tokens s =
    if s.is_followed then (record s { bytes = take (left_bytes bytes s) s.bytes; tokens = take (length s.tokens - tokens) s.tokens }) else s

-- what is taken back so
abbrev pub last_part : ℕ → ℕ → SentState → Queue
last_part bytes tokens s = record { bytes = drop (left_bytes bytes s) s.bytes; tokens = drop (length s.tokens - tokens) s.tokens }

-- all but the last `left` bytes may be told, once it is their turn
abbrev pub released_but : ℕ → SentState → SentState
released_but left s = record s { released = max s.released (length s.bytes - left) }

-- how many more these are
abbrev pub released_count : ℕ → SentState → ℕ
released_count left s = (released_but left s).released - s.released

-- it is the turn of so many more of them
abbrev pub ready_more : ℕ → SentState → SentState
ready_more count s = record s { ready = min (s.ready + count) s.released }

-- the first message, under this signature: its bytes and tokens
abbrev pub first_piece : List ArgumentType → SentState → Queue
first_piece signature s =
    record { bytes = take (length_of (ready_part s).bytes) s.bytes; tokens = take (fd_count signature) s.tokens }

-- what is left without it
abbrev pub without_first : List ArgumentType → SentState → SentState
without_first signature s = record s {
  bytes = drop (length_of (ready_part s).bytes) s.bytes;
  tokens = drop (fd_count signature) s.tokens;
  ready = s.ready - length_of (ready_part s).bytes;
  released = s.released - length_of (ready_part s).bytes;
}

-- the side is followed no further, and what it sent is dropped
abbrev pub unfollowed : SentState → SentState
unfollowed s = record { bytes = []; tokens = []; ready = 0; released = 0; is_followed = false }
