-- That a reading has room for each message of a client that is no longer than the incoming buffer may become.
--
-- A receive that brings a byte was offered at least one. One that brings none is the last of its reading, so the law is
-- about the link after the reading.
--
-- The law follows from the definition of a reading. It has a clause of its own, so that a user sees without that definition
-- that a full buffer kills no client that keeps within the limit.
use Rattle.std.specs.Prelude.{◌≡◌, List, [], Some, Result, Ok, Err}
use Rattle.wl_wire.specs.declared.error.IoFault.{IoFault}
use Rattle.wl_link.specs.Exchange.{Queue}
use Rattle.wl_link.specs.Link.{FindsRoom, LinkState}
use Rattle.wl_server_client.specs.Deeds.{IsAmong, came_in}
use Rattle.wl_server_client.specs.Deeds.{Deed}
use Rattle.wl_server_client.specs.Ids.{ClientParts}
use Rattle.wl_server_client.specs.Part.{Part}
use Rattle.wl_server_model.specs.PartStep.{Call, World}
use Rattle.wl_server_model.specs.Server.{ServerState, seen}
use Rattle.wl_server_model.specs.Steps.{Entry, OneStep}

-- the receive brought no byte
abbrev pub BringsNone : Result Queue IoFault → Type 0
BringsNone (Ok came) = came.bytes ≡ []
BringsNone (Err f) = Unit {0}

module _ {T U : Type 0} where
  -- If a receive brought no byte, a byte is free for what the message at the front lacks, unless that message is longer than
  -- the incoming buffer may become.
  abbrev pub LeavesRoom : List (Deed U) → LinkState T → Type 0
  LeavesRoom did link = (r : Result Queue IoFault) → IsAmong (came_in did) r → BringsNone r → FindsRoom link link.incoming_capacity

module _ {T U G C : Type 0} (w : World T G C) where
  -- so it is with each client after this call, whatever its deeds are
  abbrev pub HasRoom : ServerState T U G C → Call T U G C → ServerState T U G C → Type 0
  HasRoom before call after =
      (e : Entry T U G C) (id : ClientParts) (p : Part T U C) → e.call ≡ call → OneStep w before e after → (seen id after).part ≡ Some p
      → LeavesRoom (e.did id) p.link
