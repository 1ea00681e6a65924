-- What a program finds of a client after a reading: what is handed out, and whether the client lives.
--
-- A contract that cites `ReadsClient` or `ReadsWithin` has another clause beside it, `call`, from which it follows.
use Rattle.std.specs.Prelude.{◌≡◌, ◌⊎◌, ◌≤◌, ℕ, min, Bool, List, ◌∷◌, [], ◌++◌, true, false, Option, None, Some, IsSome, is_some, Result, Ok, Err}
use Rattle.wl_wire.specs.declared.error.IoFault.{IoFault}
use Rattle.wl_wire.specs.declared.error.IoFault.TheVariants as fault
use Rattle.wl_wire.specs.MessageRows.{request_row}
use Rattle.wl_wire.specs.Table.{InterfaceRow, MessageRow, registry_id}
use Rattle.wl_link.specs.declared.object.Object.{Object}
use Rattle.wl_link.specs.Store.{held}
use Rattle.wl_server_client.specs.declared.error.ActionError.{ActionError}
use Rattle.wl_server_client.specs.declared.error.ActionError.TheVariants.{ActionOpen, Io}
use Rattle.wl_server_client.specs.declared.notes.DisconnectReason.{DisconnectReason}
use Rattle.wl_server_client.specs.declared.notes.Happening.TheVariants.{Disconnected}
use Rattle.wl_server_client.specs.declared.objects.Kept.{Kept}
use Rattle.wl_server_client.specs.declared.reading.action.Action.{Action}
use Rattle.wl_server_client.specs.declared.reading.action.OpenAction.TheVariants as opened
use Rattle.wl_server_client.specs.declared.reading.action.Reading.{Reading}
use Rattle.wl_server_model.specs.Backend.{BackendState}
use Rattle.wl_server_client.specs.Deeds.{Bind, Handed, Registry, Request}
use Rattle.wl_server_client.specs.Ids.{ClientParts, IdParts}
use Rattle.wl_server_client.specs.Part.{Part, fresh_object, id_at, named}
use Rattle.wl_server_model.specs.Plain.{GlobalsStay, OtherClientsStay, client_in, killed_in, object_in}
use Rattle.wl_server_client.specs.Reading.{action_content}
use Rattle.wl_server_model.specs.ReadingEnds.{MakesItsObject, ObjectsFit}
use Rattle.wl_server_model.specs.Server.{Seen, seen}

module _ {T U C : Type 0} (table : List InterfaceRow) (hands_registries : Bool) (id : ClientParts) where
  -- A request: its sender is a kept object of the client, and the table has the request for the interface of that object. Each
  -- object argument is null, where the table allows that, or a kept object of an interface that fits. A request that makes an
  -- object has its id among its arguments, as a new id, and no other has one; the object has no data yet. A bind: its object is
  -- new, and has no data yet. A registry: registries are handed out, and it is a new object, of the first version, that has no data
  -- yet. Each is open from now on.
  abbrev pub IsHandedOut : Handed → Part T U C → Type 0
  IsHandedOut (Request sender opcode args is_destructor created) p =
      (x : Object (Kept U)) × (row : MessageRow) × (held p.store sender.number ≡ Some x) × (sender ≡ id_at id sender.number x)
      × (request_row table x.interface opcode ≡ Some row) × (is_destructor ≡ row.is_destructor)
      × ObjectsFit id p.store row.signature row.arg_interfaces args
      × MakesItsObject id p.store row x.version args created
      × (p.action ≡ Some (opened.Request sender is_destructor created))
  IsHandedOut (Bind global object) p =
      (version : ℕ) × (object.client ≡ id) × (held p.store object.number ≡ Some (fresh_object object.interface version object.serial None))
      × (p.action ≡ Some (opened.Bind object))
  IsHandedOut (Registry object) p =
      (hands_registries ≡ true) × (object.client ≡ id) × (object.interface ≡ registry_id)
      × (held p.store object.number ≡ Some (fresh_object registry_id 1 object.serial None)) × (p.action ≡ Some (opened.Bind object))

  -- it lives on, and nothing is noted of it
  abbrev pub LivesOn : Seen T U C → Part T U C → Seen T U C → Type 0
  LivesOn before q after = (q.is_killed ≡ false) × (after ≡ record { part = Some q; made = before.made })

  -- it is killed, and that is noted once
  abbrev pub IsKilledOnce : Seen T U C → Part T U C → Seen T U C → Type 0
  IsKilledOnce before q after =
      (q.is_killed ≡ true) × ((reason : DisconnectReason) × (after ≡ record { part = Some q; made = before.made ++ Disconnected reason ∷ [] }))

  -- what a reading leaves of a live client if it answers this fault
  abbrev pub FaultLeaves : IoFault → Seen T U C → Part T U C → Seen T U C → Type 0
  FaultLeaves fault.WouldBlock before q after = LivesOn before q after
  FaultLeaves fault.OutOfMemory before q after = LivesOn before q after
  FaultLeaves f before q after = IsKilledOnce before q after

  -- a live client without an open action was read
  abbrev pub OpenReadAs : Result Handed ActionError → Seen T U C → Part T U C → Seen T U C → Type 0
  OpenReadAs (Ok h) before q after = IsHandedOut h q × LivesOn before q after
  OpenReadAs (Err ActionOpen) before q after = ⊥
  OpenReadAs (Err (Io f)) before q after = (q.action ≡ None) × FaultLeaves f before q after

  -- Nothing is read of a client that is not stored, has an open action, or was killed. Then nothing changes, and the answer
  -- says which it is.
  abbrev pub ReadAs : Result Handed ActionError → Seen T U C → Seen T U C → Type 0
  ReadAs answer before after =
      ((before.part ≡ None) × (answer ≡ Err (Io fault.InvalidInput)) × (after ≡ before))
      ⊎ ((p : Part T U C) × (before.part ≡ Some p)
      × ((IsSome p.action × (answer ≡ Err ActionOpen) × (after ≡ before))
      ⊎ (((p.action ≡ None) × (p.is_killed ≡ true) × (answer ≡ Err (Io fault.Pipe)) × (after ≡ before))
      ⊎ ((p.action ≡ None) × (p.is_killed ≡ false) × ((q : Part T U C) × OpenReadAs answer before q after)))))

module _ {T U C : Type 0} where
  -- the id names an object of the client, or its serial was given out
  abbrev pub IsOld : Option (Part T U C) → IdParts → Type 0
  IsOld None id = Unit {0}
  IsOld (Some p) id = IsSome (named p.store id) ⊎ (id.serial ≤ p.last_serial)

module _ {T U G C : Type 0} where
  -- After `OutOfMemory` memory was refused. After `Pipe` it was only if this call killed the client, since it could not be told of
  -- something. After any other answer it was not.
  abbrev pub ReadingMemory : BackendState T U G C → ClientParts → Result Handed ActionError → BackendState T U G C → Type 0
  ReadingMemory before id (Err (Io fault.OutOfMemory)) after = after.refused ≡ true
  ReadingMemory before id (Err (Io fault.Pipe)) after = after.refused ≡ true → (killed_in before id ≡ Some false) × (killed_in after id ≡ Some true)
  ReadingMemory before id _ after = after.refused ≡ false

  -- A reading: what it answers and leaves of its client. Each id but those that it made names what it named, and the other
  -- clients are as before.
  pub record ReadsClient (before : BackendState T U G C) (id : ClientParts) (answer : Result Action ActionError) (after : BackendState T U G C) : Type 0 where
    pub client : ReadAs before.server.offer.table before.server.offer.hands_registries id (action_content answer)
        (seen id before.server) (seen id after.server)
    pub objects : (other : IdParts) → IsOld (client_in before other.client) other → object_in after other ≡ object_in before other
    pub clients : OtherClientsStay before id after
    pub stored : (other : ClientParts) → is_some (client_in after other) ≡ is_some (client_in before other)
    pub globals : GlobalsStay before after
    pub memory : ReadingMemory before id (action_content answer) after

  -- A reading that goes on with what an earlier one left: it leaves no more receives than it found, and counts no fewer requests. The
  -- count stops at the greatest number.
  pub record ReadsWithin (before : BackendState T U G C) (id : ClientParts) (reading : Reading) (answer : Result Action ActionError) (left : Reading)
      (after : BackendState T U G C) : Type 0 where
    pub reads : ReadsClient before id answer after
    pub turns : left.turns_left ≤ reading.turns_left
    pub count : min reading.read 0xFFFFFFFFFFFFFFFF ≤ left.read
