-- A guard, as its callers see it.
use Rattle.std.specs.Prelude.{◌≡◌, ◌≤◌, ◌⊎◌, ℕ, List, [], ◌∷◌, ◌++◌, length, Option, None, Some, IsSome}
use Rattle.wl_wire.specs.declared.argument.Token.{Token}
use Rattle.wl_link.specs.Exchange.{Queue, joined, nothing}
use Rattle.wl_follow.specs.Sides.{other_side}
use Rattle.wl_follow.specs.declared.side.Side.{Side}
use Rattle.wl_follow.specs.declared.side.Side.TheVariants.{Client, Server}
use Rattle.wl_guard.specs.Ends.{StopsBy, told_end}
use Rattle.wl_guard.specs.Known.{Known, nothing_known}
use Rattle.wl_guard.specs.Passages.{Passage, Passes, all_released, all_sent}
use Rattle.wl_guard.specs.Policy.{PolicyState}
use Rattle.wl_guard.specs.Queues.{left_after}
use Rattle.wl_guard.specs.declared.ending.End.{End}
use Rattle.wl_guard.specs.declared.ending.End.TheVariants.{HungUp}

-- What is known of the session; what came from each side and was not read; what is to be sent to each; the tokens that were given back
-- and not taken; and how the connection ended, if it has.
pub record GuardState : Type 0 where
  pub known : Known
  pub from_client : Queue
  pub from_server : Queue
  pub to_client : Queue
  pub to_server : Queue
  pub released : List Token
  pub end : Option End

-- what came from the side and was not read
abbrev pub unread : Side → GuardState → Queue
unread Client g = g.from_client
unread Server g = g.from_server

-- what is to be sent to the side
abbrev pub to_send : Side → GuardState → Queue
to_send Client g = g.to_client
to_send Server g = g.to_server

-- nothing came yet
abbrev pub new_guard : GuardState
new_guard = record { known = nothing_known; from_client = nothing; from_server = nothing; to_client = nothing; to_server = nothing; released = []; end = None }

-- Of this, which a side sent, the messages that are there whole were passed, up to an end if it has come to one: `out` is what is to be
-- sent to the other side, and `back` to the side itself, which is told of its breach if it is the client.
pub record ArrivesAt (p : PolicyState) (side : Side) (k : Known) (q out back : Queue) (released : List Token) (end : Option End) (k' : Known) (rest out' back' : Queue)
    (released' : List Token) : Type 0 where
  pub passages : List Passage
  pub last : Known
  pub passes : Passes p side k q passages last rest
  pub stops : StopsBy p side last rest end k'
  pub sent : out' ≡ joined out (all_sent passages)
  pub told : back' ≡ told_end p k' end back
  pub back_is : released' ≡ released ++ all_released passages

-- This came from the side, and was passed behind what was not read yet: the connection had not ended, and there was room for the other
-- side. What that sent stays as it was.
pub record Arrives (p : PolicyState) (side : Side) (came : Queue) (before after : GuardState) : Type 0 where
  pub begun : before.end ≡ None
  pub room : length (to_send (other_side side) before).bytes ≤ p.limits.waiting
  pub at : ArrivesAt p side before.known (joined (unread side before) came) (to_send (other_side side) before) (to_send side before) before.released
      after.end after.known (unread side after) (to_send (other_side side) after) (to_send side after) after.released
  pub other : unread (other_side side) after ≡ unread (other_side side) before

-- so many bytes of one send, with its tokens, were sent to the side
abbrev pub Sent : Side → ℕ → GuardState → GuardState → Type 0
Sent Client count before after = after ≡ record before { to_client = left_after count before.to_client }
Sent Server count before after = after ≡ record before { to_server = left_after count before.to_server }

-- The token is given back for closing: one of a message that did not go on, or, once the connection has ended, one that was not read.
abbrev pub GivesBack : GuardState → Option Token → GuardState → Type 0
GivesBack before None after = (after ≡ before) × (before.released ≡ []) × (IsSome before.end → (before.from_client.tokens ≡ []) × (before.from_server.tokens ≡ []))
GivesBack before (Some t) after =
    (before ≡ record after { released = after.released ++ t ∷ [] })
    ⊎ (IsSome before.end × (before.released ≡ []) × (before ≡ record after { from_client = record { bytes = after.from_client.bytes; tokens = t ∷ after.from_client.tokens } }))
    ⊎ (IsSome before.end × (before.released ≡ []) × (before.from_client.tokens ≡ [])
    × (before ≡ record after { from_server = record { bytes = after.from_server.bytes; tokens = t ∷ after.from_server.tokens } }))

-- the connection ends, which it had not: the program hung up
abbrev pub HangsUp : GuardState → GuardState → Type 0
HangsUp before after = (before.end ≡ None) × (after ≡ record before { end = Some HungUp })
