-- The *deeds* of a call with one client: what it does that cannot be seen from what is held of the client before and after.
--
-- The definition of each call names its deeds. They exist in contracts only; no program stores them. From them follow the
-- log of a client, what its transport took, what its registries announced, and what was noted.
use Rattle.std.specs.Prelude.{◌≡◌, ◌⊎◌, ℕ, List, [], ◌∷◌, Bool, Option, None, Some, Result}
use Rattle.wl_wire.specs.declared.argument.Argument.{Argument}
use Rattle.wl_wire.specs.declared.argument.Token.{Token}
use Rattle.wl_wire.specs.declared.error.IoFault.{IoFault}
use Rattle.wl_link.specs.Exchange.{Queue, Sending}
use Rattle.wl_link.specs.Identity.{Id}
use Rattle.wl_link.specs.Puts.{Said}
use Rattle.wl_server_client.specs.declared.reading.action.Action.{Action}
use Rattle.wl_server_client.specs.declared.reading.action.Action.TheVariants as action
use Rattle.wl_server_client.specs.declared.notes.Happening.{Happening}
use Rattle.wl_server_client.specs.Ids.{GlobalParts, IdParts}

-- an action that is handed out, as contracts see it: its arguments are a plain list
pub data Handed : Type 0 where
  Request : (sender : IdParts) (opcode : ℕ) (args : List (Argument IdParts Token)) (is_destructor : Bool) (created : Option IdParts) → Handed
  Bind : (global : GlobalParts) (object : IdParts) → Handed
  Registry : (object : IdParts) → Handed

abbrev pub handed : Action → Handed
handed (action.Request sender opcode args is_destructor created) = Request sender opcode args.items is_destructor created
handed (action.Bind global object) = Bind global object
handed (action.Registry object) = Registry object

-- the arguments of an action: those of a request
abbrev pub arguments_in : Action → List (Argument IdParts Token)
arguments_in (action.Request sender opcode args is_destructor created) = args.items
arguments_in _ = []

-- one thing that a call does with a client
pub data Deed (U : Type 0) : Type 0 where
  -- its transport was offered this, and answered so; its transport gave this to a receive
  Sent : Sending → Deed U
  Came : Result Queue IoFault → Deed U
  -- a message was put: written after what waits to be sent
  Put : Said → Deed U
  -- a registry was made for it, and is told of globals from then on
  Remembered : Id → Deed U
  -- an object that had user data left its store
  Left : Id → Deed U
  -- something was noted of it
  Noted : Happening U → Deed U
  -- an action was handed out
  Acted : Handed → Deed U
  -- a note of it was handed out
  NoteTaken : Happening U → Deed U

module _ {U : Type 0} where
  -- the messages that were put
  abbrev pub log_of : List (Deed U) → List Said
  log_of [] = []
  log_of (Put m ∷ did) = m ∷ log_of did
  log_of (_ ∷ did) = log_of did

  -- the sends that were made
  abbrev pub sends_of : List (Deed U) → List Sending
  sends_of [] = []
  sends_of (Sent e ∷ did) = e ∷ sends_of did
  sends_of (_ ∷ did) = sends_of did

  -- the notes that were made
  abbrev pub notes_in : List (Deed U) → List (Happening U)
  notes_in [] = []
  notes_in (Noted h ∷ did) = h ∷ notes_in did
  notes_in (_ ∷ did) = notes_in did

  -- the registries that were made, and are told of globals
  abbrev pub registries_in : List (Deed U) → List Id
  registries_in [] = []
  registries_in (Remembered r ∷ did) = r ∷ registries_in did
  registries_in (_ ∷ did) = registries_in did

  -- the objects with user data that left
  abbrev pub left_in : List (Deed U) → List Id
  left_in [] = []
  left_in (Left id ∷ did) = id ∷ left_in did
  left_in (_ ∷ did) = left_in did

  -- the notes that were handed out
  abbrev pub taken_in : List (Deed U) → List (Happening U)
  taken_in [] = []
  taken_in (NoteTaken h ∷ did) = h ∷ taken_in did
  taken_in (_ ∷ did) = taken_in did

  abbrev pub left_if : Id → Option U → List (Deed U)
  left_if id None = []
  left_if id (Some u) = Left id ∷ []

module _ {U : Type 0} where
  -- what was received
  abbrev pub came_in : List (Deed U) → List (Result Queue IoFault)
  came_in [] = []
  came_in (Came r ∷ did) = r ∷ came_in did
  came_in (_ ∷ did) = came_in did

-- one of the list
abbrev pub IsAmong : {A : Type 0} → List A → A → Type 0
IsAmong [] x = ⊥
IsAmong (other ∷ xs) x = (other ≡ x) ⊎ IsAmong xs x
