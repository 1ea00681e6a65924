-- Which object leaves its number as a message is handled, and the ids of such objects while they are kept.
--
-- A message takes out one object at most: that of a number whose id the server deletes, or that of a number at which the server
-- makes a new one. The client had destroyed it, or an event had.
use Rattle.std.specs.Prelude.{◌≡◌, ℕ, List, [], ◌∷◌, ◌++◌, Bool, ◌==◌, ◌&&◌, if◌then◌else◌, Option, None, Some}
use Rattle.wl_wire.specs.declared.argument.Argument.TheVariants as arg
use Rattle.wl_wire.specs.Argument.{WireArgument}
use Rattle.wl_wire.specs.Message.{WireMessage}
use Rattle.wl_wire.specs.Table.{InterfaceRow}
use Rattle.wl_link.specs.declared.object.Object.{Object}
use Rattle.wl_link.specs.Identity.{Objects}
use Rattle.wl_link.specs.Store.{Store, held}
use Rattle.wl_client.specs.declared.objects.Kept.{Kept}
use Rattle.wl_client.specs.Events.{DisplayEvent, Deletes, display_event}
use Rattle.wl_client.specs.Handling.{Handling, is_passed_over, objects_after, row_in}
use Rattle.wl_client.specs.ObjectId.{IdParts}
use Rattle.wl_client.specs.Session.{Core, SessionState, id_at, objects_of}

-- the first new id among the arguments
abbrev pub first_new_id : List WireArgument → Option ℕ
first_new_id [] = None
first_new_id (arg.NewId n ∷ args) = Some n
first_new_id (_ ∷ args) = first_new_id args

-- the number that an event of the display deletes
abbrev pub deleted_number : DisplayEvent → Option ℕ
deleted_number (Deletes n) = Some n
deleted_number _ = None

module _ {U : Type 0} where
  -- the id of the object, if the client destroyed it
  abbrev pub destroyed_id : ℕ → Option (Object (Kept U)) → Option IdParts
  destroyed_id n None = None
  destroyed_id n (Some x) = if x.value.client_destroyed then Some (id_at n x) else None

  abbrev pub destroyed_at : Store (Kept U) → Option ℕ → Option IdParts
  destroyed_at store None = None
  destroyed_at store (Some n) = destroyed_id n (held store n)

  -- The id of the object that leaves its number as the message is handled, which leads from these objects to those. A
  -- `delete_id` takes out what the client destroyed; an event does so where it makes an object, at its first new id.
  abbrev pub freed_by : Objects (Kept U) → WireMessage → Objects (Kept U) → Option IdParts
  freed_by before m after =
      if m.sender == 1 then destroyed_at before.store (deleted_number (display_event m.opcode m.args))
      else (if after.last_serial == before.last_serial then None else destroyed_at before.store (first_new_id m.args))

  -- the id of the object that leaves its number as the message is handled so; one that is passed over frees no number
  abbrev pub freed_as : Bool → List InterfaceRow → Objects (Kept U) → WireMessage → Handling U → Option IdParts
  freed_as passes table objects m h =
      if is_passed_over passes (held objects.store m.sender) (row_in table (held objects.store m.sender) m.opcode) then None
      else freed_by objects m (objects_after h)

-- the ids that wait, with one more, if they are kept
abbrev pub with_freed : Bool → List IdParts → Option IdParts → List IdParts
with_freed keeps ids None = ids
with_freed keeps ids (Some id) = if keeps then ids ++ id ∷ [] else ids

-- While they are kept, a `delete_id` asks for the place of an id before it is read. (An event that makes an object asks anyway.)
abbrev pub freed_asks : Bool → ℕ → ℕ → Bool
freed_asks keeps sender opcode = keeps && ((sender == 1) && (opcode == 1))

module _ {U : Type 0} where
  -- the object of this id leaves its number
  abbrev pub freeing : Core U → Option IdParts → Core U
  freeing c id = record c { freed = with_freed c.keeps_freed c.freed id }

module _ {T U : Type 0} where
  abbrev pub frees : SessionState T U → Option IdParts → SessionState T U
  frees s id = record s { freed = with_freed s.keeps_freed s.freed id }

  -- From now on they are kept, or no more. Those that wait go on waiting if they were kept and are, and else are dropped.
  abbrev pub kept_freed : SessionState T U → Bool → SessionState T U
  kept_freed s keeps = record s { keeps_freed = keeps; freed = if keeps && s.keeps_freed then s.freed else [] }

  -- of these ids, which wait, the first comes out; or there is none
  abbrev pub HandsFreed : List IdParts → SessionState T U → Option IdParts → SessionState T U → Type 0
  HandsFreed [] before answer after = (answer ≡ None) × (after ≡ before)
  HandsFreed (id ∷ ids) before answer after = (answer ≡ Some id) × (after ≡ record before { freed = ids })
