-- What the functions of a dispatch promise each other.
use Rattle.std.specs.Prelude.{◌≡◌, ◌⊎◌, ℕ, ◌<◌, length, ◌||◌, Bool, List, Option, None, Result, MatchOption}
use Rattle.std.specs.Option.{option_map_or}
use Rattle.wl_wire.specs.declared.error.IoFault.{IoFault}
use Rattle.wl_server_client.specs.declared.reading.action.Reading.{Reading}
use Rattle.wl_server_model.specs.declared.step.Reply.{Reply}
use Rattle.wl_server_model.specs.declared.step.Step.TheVariants as step
use Rattle.wl_server_model.specs.Backend.{BackendState}
use Rattle.wl_server_model.specs.Dispatch.{Answering, EachIsDispatched, IsDispatched, Last, Round, Rounds, RoundsEnd, cleaned}
use Rattle.wl_server_client.specs.Ids.{ClientParts}
use Rattle.wl_server_model.specs.PartStep.{Asked, World}
use Rattle.wl_server_model.specs.Server.{Seen, ServerState, seen}
use Rattle.wl_server_model.specs.Steps.{Entry, OneStep}

-- how many bytes of a client wait to be read
abbrev pub waits : {T U C : Type 0} → Seen T U C → ℕ
waits s = option_map_or (λ p. length p.link.incoming.bytes) s.part 0

module _ {T U G C : Type 0} where
  abbrev pub waiting_of : ClientParts → ServerState T U G C → ℕ
  waiting_of id s = waits (seen id s)

  -- fewer receives are left, or as many and fewer bytes wait
  abbrev pub Fewer : ClientParts → Reading → ServerState T U G C → Reading → ServerState T U G C → Type 0
  Fewer id r s r' s' = (r'.turns_left < r.turns_left) ⊎ ((r'.turns_left ≡ r.turns_left) × (waiting_of id s' < waiting_of id s))

-- In each of these, `refused` says whether memory was refused in its own calls or in those of the dispatch before it.
module _ {H T U G C : Type 0} (w : World T G C) (answers : Answering H T U G C) (id : ClientParts) where
  -- The client is read once, and an action is handled, if there is one. This fault ends the dispatch, or none does.
  pub record MakesRound (h : H) (r : Reading) (before : BackendState T U G C) (end : Option IoFault) (h' : H) (r' : Reading) (after : BackendState T U G C) : Type 0 where
    pub run : List (Entry T U G C)
    pub lacked : Bool
    pub round : MatchOption end (Round w answers id h r before.server run lacked None h' r' after.server)
        (λ f. Last w answers id h r before.server run lacked f h' r' after.server)
    pub refused : after.refused ≡ before.refused || lacked
    pub fewer : end ≡ None → Fewer id r before.server r' after.server

  -- The same again and again, until a receive is used up or a fault ends the dispatch.
  pub record MakesRounds (h : H) (r : Reading) (before : BackendState T U G C) (end : Option IoFault) (h' : H) (r' : Reading) (after : BackendState T U G C) : Type 0 where
    pub run : List (Entry T U G C)
    pub lacked : Bool
    pub rounds : MatchOption end (Rounds w answers id h r before.server run lacked h' r' after.server)
        (λ f. RoundsEnd w answers id h r before.server run lacked f h' r' after.server)
    pub refused : after.refused ≡ before.refused || lacked
    pub fewer : end ≡ None → r'.turns_left < r.turns_left

  -- rounds so far
  pub record RoundsSoFar (h : H) (r : Reading) (before : BackendState T U G C) (h' : H) (r' : Reading) (after : BackendState T U G C) : Type 0 where
    pub run : List (Entry T U G C)
    pub lacked : Bool
    pub rounds : Rounds w answers id h r before.server run lacked h' r' after.server
    pub refused : after.refused ≡ before.refused || lacked

  pub record MakesAllRounds (h : H) (before : BackendState T U G C) (answer : Result ℕ IoFault) (h' : H) (after : BackendState T U G C) : Type 0 where
    pub run : List (Entry T U G C)
    pub lacked : Bool
    pub dispatched : IsDispatched w answers id h before.server run lacked answer h' after.server
    pub refused : after.refused ≡ before.refused || lacked

-- clients so far, and the sum of their counts
pub record ClientsSoFar {H T U G C : Type 0} (w : World T G C) (answers : Answering H T U G C) (ids : List ClientParts) (h : H) (before : BackendState T U G C)
    (total : ℕ) (h' : H) (after : BackendState T U G C) : Type 0 where
  pub run : List (Entry T U G C)
  pub lacked : Bool
  pub each : EachIsDispatched w answers ids h before.server run lacked total h' after.server
  pub refused : after.refused ≡ before.refused || lacked

-- the cleanup at the end
pub record CleansUp {T U G C : Type 0} (w : World T G C) (before : BackendState T U G C) (answer result : Result ℕ IoFault) (after : BackendState T U G C) : Type 0 where
  pub cleanup : Entry T U G C
  pub out : Reply T U
  pub cleans : OneStep w before.server cleanup after.server
  pub cleanup_is : cleanup.call ≡ Asked step.Cleanup out
  pub result_is : result ≡ cleaned out answer
  pub refused : after.refused ≡ before.refused || cleanup.refused
