-- What a program does that hands on: it receives on one link, hands messages on to another, and flushes that one.
use Rattle.std.specs.Prelude.{◌≡◌, ℕ, List, [], ◌∷◌, Result, Ok, Err}
use Rattle.std.specs.List.{AllByRecursion}
use Rattle.wl_wire.specs.declared.argument.ArgumentType.{ArgumentType}
use Rattle.wl_wire.specs.declared.error.IoFault.{IoFault}
use Rattle.wl_link.specs.declared.buffered_socket.hand_on.HandOnError.{HandOnError}
use Rattle.wl_link.specs.Exchange.{Queue, Sending, joined, nothing}
use Rattle.wl_link.specs.HandOn.{HandsOn}
use Rattle.wl_link.specs.Link.{LinkState, FilledBy, FlushedBy, with_transport}
use Rattle.wl_link.specs.NothingLost.{taken, NoZero}

-- a receive on the first link, and what it gave; a message handed on, with its signature; a flush of the second link
pub data RelayCall : Type 0 where
  ByReceive : Result Queue IoFault → RelayCall
  ByHandOn : List ArgumentType → Result (Unit {0}) HandOnError → RelayCall
  BySend : List Sending → Result (Unit {0}) IoFault → RelayCall

module _ {R S : Type 0} (receives : R → ℕ → Result Queue IoFault → R → Type 0) (sends : S → Queue → Result ℕ IoFault → S → Type 0) where
  abbrev pub RelayStep : LinkState R → LinkState S → RelayCall → LinkState R → LinkState S → Type 0
  RelayStep from to (ByReceive received) from' to' = ((answer : Result (Unit {0}) IoFault) × FilledBy receives from received answer from') × (to' ≡ to)
  RelayStep from to (ByHandOn signature answer) from' to' = HandsOn signature from to answer from' to'
  RelayStep from to (BySend es answer) from' to' = FlushedBy sends to es answer to' × (from' ≡ from)

  -- the calls one after another; between two of them the transports may be changed
  abbrev pub RelayRun : LinkState R → LinkState S → List RelayCall → LinkState R → LinkState S → Type 0
  RelayRun from to [] from' to' = (from' ≡ from) × (to' ≡ to)
  RelayRun from to (c ∷ cs) from' to' =
      (t : R) × (u : S) × (mid_from : LinkState R) × (mid_to : LinkState S)
      × RelayStep (with_transport from t) (with_transport to u) c mid_from mid_to × RelayRun mid_from mid_to cs from' to'

-- what came by a call
abbrev pub came_by : RelayCall → Queue
came_by (ByReceive (Ok came)) = came
came_by (ByReceive (Err fault)) = nothing
came_by (ByHandOn signature answer) = nothing
came_by (BySend es answer) = nothing

-- what the second link's transport took
abbrev pub left_by : RelayCall → Queue
left_by (ByReceive received) = nothing
left_by (ByHandOn signature answer) = nothing
left_by (BySend es answer) = taken es

abbrev pub all_came : List RelayCall → Queue
all_came [] = nothing
all_came (c ∷ cs) = joined (came_by c) (all_came cs)

abbrev pub all_left : List RelayCall → Queue
all_left [] = nothing
all_left (c ∷ cs) = joined (left_by c) (all_left cs)

-- no send of this call answered 0
abbrev pub NotZero : RelayCall → Type 0
NotZero (BySend es answer) = NoZero es
NotZero (ByReceive received) = Unit {0}
NotZero (ByHandOn signature answer) = Unit {0}

-- What left, and then what waits on the second link, and then what waits on the first one, is what waited at first and then
-- what came, however it was cut into receives, messages and sends: byte for byte, and token for token.
abbrev pub RelayLaw : {R S : Type 0} → (R → ℕ → Result Queue IoFault → R → Type 0) → (S → Queue → Result ℕ IoFault → S → Type 0) → Type 0
RelayLaw {R = R} {S = S} receives sends =
    (from from' : LinkState R) (to to' : LinkState S) (cs : List RelayCall)
    → RelayRun receives sends from to cs from' to' → AllByRecursion NotZero cs
    → joined (all_left cs) (joined to'.outgoing from'.incoming) ≡ joined (joined to.outgoing from.incoming) (all_came cs)
