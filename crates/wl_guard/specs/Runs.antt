-- Calls of a guard, one after another.
use Rattle.std.specs.Prelude.{◌≡◌, ℕ, ◌+◌, Bool, List, [], ◌∷◌, ◌++◌, length, max, Some}
use Rattle.std.specs.List.{sum_by}
use Rattle.wl_wire.specs.declared.argument.Token.{Token}
use Rattle.wl_wire.specs.declared.interface.InterfaceId.{InterfaceId}
use Rattle.wl_link.specs.Exchange.{Queue, joined, nothing}
use Rattle.wl_follow.specs.declared.side.Side.{Side}
use Rattle.wl_follow.specs.declared.side.Side.TheVariants.{Client, Server}
use Rattle.wl_guard.specs.Closure.{AreWithin}
use Rattle.wl_guard.specs.Ends.{told_end}
use Rattle.wl_guard.specs.Guard.{Arrives, GivesBack, GuardState, HangsUp, Sent, to_send}
use Rattle.wl_guard.specs.Known.{Known}
use Rattle.wl_guard.specs.Passages.{IsPassed, Passage}
use Rattle.wl_guard.specs.Policy.{PolicyState}
use Rattle.wl_guard.specs.Queues.{part_sent}

-- a call of a guard that changed it, with what it was given and what came of it
pub data Call : Type 0 where
  -- this came from that side, and was passed so
  Came : (side : Side) (came : Queue) (passages : List Passage) → Call
  -- this was sent to that side
  WasSent : (side : Side) (out : Queue) → Call
  -- this token was given back
  GaveBack : (token : Token) → Call
  -- the program hung up
  HungUp : Call

-- What a call does. All are by one policy.
abbrev pub Does : PolicyState → GuardState → Call → GuardState → Type 0
Does p before (Came side came passages) after = (arrives : Arrives p side came before after) × (arrives.at.passages ≡ passages)
Does p before (WasSent side out) after = (count : ℕ) × Sent side count before after × (out ≡ part_sent count (to_send side before))
Does p before (GaveBack token) after = GivesBack before (Some token) after
Does p before HungUp after = HangsUp before after

-- the calls lead from one state of the guard to another
abbrev pub Leads : PolicyState → GuardState → List Call → GuardState → Type 0
Leads p before [] after = after ≡ before
Leads p before (c ∷ calls) after = (mid : GuardState) × Does p before c mid × Leads p mid calls after

-- what came from the side
abbrev pub came_in : Side → Call → Queue
came_in Client (Came Client came passages) = came
came_in Server (Came Server came passages) = came
came_in _ _ = nothing

abbrev pub all_came : Side → List Call → Queue
all_came side [] = nothing
all_came side (c ∷ calls) = joined (came_in side c) (all_came side calls)

-- what was sent to the side
abbrev pub out_in : Side → Call → Queue
out_in Client (WasSent Client out) = out
out_in Server (WasSent Server out) = out
out_in _ _ = nothing

abbrev pub all_out : Side → List Call → Queue
all_out side [] = nothing
all_out side (c ∷ calls) = joined (out_in side c) (all_out side calls)

-- what became of the messages that the side sent
abbrev pub passed_in : Side → Call → List Passage
passed_in Client (Came Client came passages) = passages
passed_in Server (Came Server came passages) = passages
passed_in _ _ = []

abbrev pub all_passed : Side → List Call → List Passage
all_passed side [] = []
all_passed side (c ∷ calls) = passed_in side c ++ all_passed side calls

-- Each of these messages of the side was passed under what was known before it, and left what is known before the next.
abbrev pub PassesUnder : PolicyState → Side → Known → List Passage → Known → Type 0
PassesUnder p side k [] k' = k' ≡ k
PassesUnder p side k (x ∷ xs) k' = (mid : Known) × ((q : Queue) × (rest : Queue) × IsPassed p side k q x mid rest) × PassesUnder p side mid xs k'

-- so were those of all calls, of both sides, in the order in which they came to the guard
abbrev pub AllPassUnder : PolicyState → Known → List Call → Known → Type 0
AllPassUnder p k [] k' = k' ≡ k
AllPassUnder p k (Came side came passages ∷ calls) k' = (mid : Known) × PassesUnder p side k passages mid × AllPassUnder p mid calls k'
AllPassUnder p k (_ ∷ calls) k' = AllPassUnder p k calls k'

-- Before each of these messages, and after the last, each object was of an interface of the set.
abbrev pub WithinEach : (set : InterfaceId → Bool) (p : PolicyState) (side : Side) (k : Known) (xs : List Passage) (k' : Known) → PassesUnder p side k xs k' → Type 0
WithinEach set p side k [] k' passed = AreWithin set k'.objects
WithinEach set p side k (x ∷ xs) k' passed = AreWithin set k.objects × WithinEach set p side passed.0 xs k' passed.2

-- so it was with those of all calls
abbrev pub AllWithin : (set : InterfaceId → Bool) (p : PolicyState) (k : Known) (calls : List Call) (k' : Known) → AllPassUnder p k calls k' → Type 0
AllWithin set p k [] k' passed = AreWithin set k'.objects
AllWithin set p k (Came side came passages ∷ calls) k' passed = WithinEach set p side k passages passed.0 passed.1 × AllWithin set p passed.0 calls k' passed.2
AllWithin set p k (WasSent side out ∷ calls) k' passed = AllWithin set p k calls k' passed
AllWithin set p k (GaveBack token ∷ calls) k' passed = AllWithin set p k calls k' passed
AllWithin set p k (HungUp ∷ calls) k' passed = AllWithin set p k calls k' passed

-- the tokens that were given back
abbrev pub back_in : Call → List Token
back_in (GaveBack token) = token ∷ []
back_in _ = []

abbrev pub all_back : List Call → List Token
all_back [] = []
all_back (c ∷ calls) = back_in c ++ all_back calls

-- ---- bytes

-- the most bytes that came from the side in one call
abbrev pub most_came : Side → List Call → ℕ
most_came side [] = 0
most_came side (c ∷ calls) = max (length (came_in side c).bytes) (most_came side calls)

-- the error that the side was told, if there is one
abbrev pub error_to : PolicyState → Side → GuardState → Queue
error_to p Client g = told_end p g.known g.end nothing
error_to p Server g = nothing

-- ---- tokens

-- the weight of the tokens that a guard keeps: those to be sent, those to be given back, and those of what was not read
abbrev pub kept_weight : (Token → ℕ) → GuardState → ℕ
kept_weight weight g =
    sum_by weight g.to_client.tokens + sum_by weight g.to_server.tokens + sum_by weight g.released + sum_by weight g.from_client.tokens
    + sum_by weight g.from_server.tokens

-- of those that came
abbrev pub weight_in : (Token → ℕ) → List Call → ℕ
weight_in weight calls = sum_by weight (all_came Client calls).tokens + sum_by weight (all_came Server calls).tokens

-- and of those that left: sent to a side, or given back
abbrev pub weight_out : (Token → ℕ) → List Call → ℕ
weight_out weight calls = sum_by weight (all_out Client calls).tokens + sum_by weight (all_out Server calls).tokens + sum_by weight (all_back calls)
