-- Calls of a relay, one after another.
use Rattle.std.specs.Prelude.{◌≡◌, ℕ, List, [], ◌∷◌, ◌++◌}
use Rattle.wl_link.specs.Exchange.{Queue, joined, nothing}
use Rattle.wl_link.specs.Mailbox.{front}
use Rattle.wl_follow.specs.declared.side.Side.{Side}
use Rattle.wl_follow.specs.declared.side.Side.TheVariants.{Client, Server}
use Rattle.wl_relay.specs.Flow.{Arrives, KeepsAll, Logged, RelayState, Sent, TakesLine, TakesLog, TakesOut, made_ready}

-- a call of a relay, with what it was given and what came of it
pub data Call : Type 0 where
  -- This came from that side. What was read has these lines.
  Came : (side : Side) (came : Queue) (lines : List (List ℕ)) → Call
  -- this was taken out for that side
  TookOut : (side : Side) (out : Queue) → Call
  -- nothing was taken out for that side; something may have been made ready
  TookNothing : (side : Side) → Call
  -- this was sent to that side of what was made ready
  SentOff : (side : Side) (out : Queue) → Call
  -- these lines of the log were taken out
  TookLog : (lines : List (List ℕ)) → Call
  -- this line of the log was taken out
  TookLine : (line : List ℕ) → Call

-- what a call does
abbrev pub Does : RelayState → Call → RelayState → Type 0
Does before (Came side came lines) after =
    Arrives side came before after × ((logged : Logged side came before after) × (logged.0.lines ≡ lines))
Does before (TookOut side out) after = TakesOut side out before after
Does before (TookNothing side) after = KeepsAll side before after
Does before (SentOff side out) after = (count : ℕ) × Sent side count before after × (out ≡ front count (made_ready side before))
Does before (TookLog lines) after = TakesLog lines before after
Does before (TookLine line) after = TakesLine line before after

-- the calls lead from one state of the relay to another
abbrev pub Leads : RelayState → List Call → RelayState → Type 0
Leads before [] after = after ≡ before
Leads before (c ∷ calls) after = (mid : RelayState) × Does before c mid × Leads mid calls after

-- what came from the side in a call
abbrev pub came_in : Side → Call → Queue
came_in Client (Came Client q lines) = q
came_in Server (Came Server q lines) = q
came_in _ _ = nothing

-- what was taken out for the side in a call, or sent to it
abbrev pub out_in : Side → Call → Queue
out_in Client (TookOut Client q) = q
out_in Server (TookOut Server q) = q
out_in Client (SentOff Client q) = q
out_in Server (SentOff Server q) = q
out_in _ _ = nothing

-- all that came from the side
abbrev pub all_came : Side → List Call → Queue
all_came side [] = nothing
all_came side (c ∷ calls) = joined (came_in side c) (all_came side calls)

-- all that was taken out for the side, or sent to it
abbrev pub all_out : Side → List Call → Queue
all_out side [] = nothing
all_out side (c ∷ calls) = joined (out_in side c) (all_out side calls)

-- the lines of all that was read
abbrev pub lines_read : List Call → List (List ℕ)
lines_read [] = []
lines_read (Came side q lines ∷ calls) = lines ++ lines_read calls
lines_read (_ ∷ calls) = lines_read calls

-- the lines that were taken out
abbrev pub lines_out : List Call → List (List ℕ)
lines_out [] = []
lines_out (TookLog lines ∷ calls) = lines ++ lines_out calls
lines_out (TookLine line ∷ calls) = line ∷ lines_out calls
lines_out (_ ∷ calls) = lines_out calls
