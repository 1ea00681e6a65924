-- What a program finds after a call: what it did to one object, one client or the notes, and that the others are as before.
-- All is said in the words of the look-ups.
--
-- A contract that cites one of these has another clause beside it, `call`, which says all that the call does, as a step.
-- What stands here follows from that clause, and can be used without it.
pub mod Reading
pub mod Events
pub mod Globals
pub mod Calls
pub mod DataInPlace
pub mod Dispatch
pub mod Transport
pub mod Chosen
use Rattle.std.specs.Prelude.{◌≡◌, ◌⊎◌, ℕ, List, [], ◌∷◌, ◌++◌, Bool, true, false, ◌&&◌, if◌then◌else◌, Option, None, Some, IsSome, is_some, Result, Ok, Err, MatchOption, MatchResult, Vec, option_map}
use Rattle.std.specs.Global.{Global}
use Rattle.wl_wire.specs.declared.error.IoFault.{IoFault}
use Rattle.wl_wire.specs.declared.error.IoFault.TheVariants as fault
use Rattle.wl_wire.specs.declared.error.OutOfMemory.{OutOfMemory}
use Rattle.wl_wire.specs.declared.interface.InterfaceId.{InterfaceId}
use Rattle.wl_link.specs.declared.object.Object.{Object}
use Rattle.wl_link.specs.Exchange.{Queue}
use Rattle.wl_link.specs.Link.{Flushed, LinkState}
use Rattle.wl_link.specs.Puts.{lacks_memory}
use Rattle.wl_link.specs.Store.{empty_store}
use Rattle.wl_server_client.specs.declared.error.CreateError.{CreateError}
use Rattle.wl_server_client.specs.declared.error.DestroyError.{DestroyError}
use Rattle.wl_server_client.specs.declared.error.DestroyError.TheVariants as destroy
use Rattle.wl_server_client.specs.declared.error.FinishError.{FinishError}
use Rattle.wl_server_client.specs.declared.error.FinishError.TheVariants as finish
use Rattle.wl_server_client.specs.declared.error.FinishRefused.{FinishRefused}
use Rattle.wl_server_client.specs.declared.error.InvalidId.{InvalidId}
use Rattle.wl_server_client.specs.declared.notes.DisconnectReason.{DisconnectReason}
use Rattle.wl_server_client.specs.declared.notes.DisconnectReason.TheVariants.{ConnectionClosed}
use Rattle.wl_server_client.specs.declared.notes.Happening.{Happening}
use Rattle.wl_server_client.specs.declared.notes.Happening.TheVariants.{Disconnected}
use Rattle.wl_server_client.specs.declared.notes.Note.{Note}
use Rattle.wl_server_client.specs.declared.objects.Kept.{Kept}
use Rattle.wl_server_client.specs.declared.reading.action.OpenAction.{OpenAction}
use Rattle.wl_server_client.specs.declared.reading.action.OpenAction.TheVariants as opened
use Rattle.wl_server_model.specs.Backend.{BackendState}
use Rattle.wl_server_client.specs.Finish.{HoldsData}
use Rattle.wl_server_model.specs.Identified.{waiting_of}
use Rattle.wl_server_client.specs.Ids.{ClientParts, IdParts, same_client}
use Rattle.wl_server_model.specs.Lookups.{and_then, client_of, object_of}
use Rattle.wl_server_client.specs.Part.{Part, fresh_object, id_of, named, note_of_end, same_id, with_user_data}
use Rattle.wl_server_model.specs.PartStep.{lacks_create, share_of}
use Rattle.wl_server_model.specs.Server.{notes_of, seen}
use Rattle.wl_server_model.specs.Steps.{RiseBySlot}
use Rattle.wl_server_client.specs.Telling.{core_of}
use Rattle.wl_server_model.specs.Outcome.Whole.{HoldsSame}

-- the ids have the same client, number and serial
abbrev pub same_object : IdParts → IdParts → Bool
same_object a b = same_client a.client b.client && same_id (id_of a) (id_of b)

-- for a client's request: the id is that of the sender, and the request ends it; the id is that of the object that it made
abbrev pub is_ended : Bool → IdParts → IdParts → Bool
is_ended is_destructor sender id = is_destructor && same_id (id_of sender) (id_of id)

abbrev pub is_made : Option IdParts → IdParts → Bool
is_made None id = false
is_made (Some made) id = same_id (id_of made) (id_of id)

-- the object with the data, if any are given
abbrev pub with_given : {U : Type 0} → Option U → Object (Kept U) → Object (Kept U)
with_given None x = x
with_given (Some u) x = with_user_data u x

-- the note of the object's end, if it was kept and had data
abbrev pub notes_if_kept : {U : Type 0} → ClientParts → ℕ → Option (Object (Kept U)) → List (Happening U)
notes_if_kept client n None = []
notes_if_kept client n (Some x) = note_of_end client n x

module _ {T U C : Type 0} where
  abbrev pub as_killed : Part T U C → Part T U C
  as_killed p = record p { is_killed = true }

  -- all of a client but its objects
  abbrev pub without_objects : Part T U C → Part T U C
  without_objects p = record p { store = empty_store }

  -- the note that a client is killed; only one that is stored and live gets it
  abbrev pub end_note_of : Option (Part T U C) → DisconnectReason → List (Happening U)
  end_note_of None reason = []
  end_note_of (Some p) reason = if p.is_killed then [] else (Disconnected reason ∷ [])

  -- A killed client is handed out once, with its transport, over which what waited was flushed. It is no longer stored.
  abbrev pub HandsOut : (T → Queue → Result ℕ IoFault → T → Type 0) → Part T U C → List T → Option (Part T U C) → Type 0
  HandsOut sends p out after =
      (answer : Result (Unit {0}) IoFault) × (link : LinkState T) × Flushed sends p.link answer link × (out ≡ link.transport ∷ []) × (after ≡ None)

module _ {T U G C : Type 0} where
  -- ---- what a program finds

  -- the client, if it is stored
  abbrev pub client_in : BackendState T U G C → ClientParts → Option (Part T U C)
  client_in b id = client_of b.server id

  -- the object that the id names
  abbrev pub object_in : BackendState T U G C → IdParts → Option (Object (Kept U))
  object_in b id = object_of b.server id

  -- the notes of a client that the next `take_notes` hands out, and those that wait for a cleanup
  abbrev pub notes_made_in : BackendState T U G C → ClientParts → List (Happening U)
  notes_made_in b id = (seen id b.server).made

  abbrev pub notes_waiting_in : BackendState T U G C → ClientParts → List (Happening U)
  notes_waiting_in b id = waiting_of (client_in b id)

  -- ---- what is as before

  -- nothing has changed; only whether memory was refused may differ
  abbrev pub IsUnchanged : BackendState T U G C → BackendState T U G C → Type 0
  IsUnchanged before after = HoldsSame after.server before.server

  -- all that is held of each other client is as before
  abbrev pub OtherClientsStay : BackendState T U G C → ClientParts → BackendState T U G C → Type 0
  OtherClientsStay before id after = (other : ClientParts) → same_client id other ≡ false → seen other after.server ≡ seen other before.server

  -- each id but this one names what it named before
  abbrev pub OtherObjectsStay : BackendState T U G C → IdParts → BackendState T U G C → Type 0
  OtherObjectsStay before id after = (other : IdParts) → same_object id other ≡ false → object_in after other ≡ object_in before other

  -- each id names what it named before
  abbrev pub ObjectsStay : BackendState T U G C → BackendState T U G C → Type 0
  ObjectsStay before after = (id : IdParts) → object_in after id ≡ object_in before id

  -- the globals, the table of interfaces and the limit of new clients are as before
  abbrev pub GlobalsStay : BackendState T U G C → BackendState T U G C → Type 0
  GlobalsStay before after = after.server.offer ≡ before.server.offer

  -- ---- the calls on objects

  -- The object that the id names has the data, and is otherwise as it was. Or the id names none, and nothing has changed. All
  -- else of the client is as before.
  pub record SetsObjectData (before : BackendState T U G C) (id : IdParts) (u : U) (answer : Result (Unit {0}) InvalidId) (after : BackendState T U G C) : Type 0 where
    pub object : MatchResult answer
        (λ _. (x : Object (Kept U)) × (object_in before id ≡ Some x) × (object_in after id ≡ Some (with_user_data u x)))
        (λ _. (object_in before id ≡ None) × IsUnchanged before after)
    pub objects : OtherObjectsStay before id after
    pub rest : option_map without_objects (client_in after id.client) ≡ option_map without_objects (client_in before id.client)
    pub clients : OtherClientsStay before id.client after
    pub notes : (client : ClientParts) → notes_made_in after client ≡ notes_made_in before client
    pub globals : GlobalsStay before after
    pub memory : after.refused ≡ false

  -- The object is gone, and if it had data, its note waits for the next cleanup. Or there is no such object, or it is the
  -- display. Or there was no memory, and it is as before.
  abbrev pub DestroyedAs : BackendState T U G C → IdParts → Result (Unit {0}) DestroyError → BackendState T U G C → Type 0
  DestroyedAs before id (Ok _) after =
      (x : Object (Kept U)) × (object_in before id ≡ Some x) × (object_in after id ≡ None)
      × (notes_waiting_in after id.client ≡ notes_waiting_in before id.client ++ note_of_end id.client id.number x)
      × (after.refused ≡ false)
  DestroyedAs before id (Err destroy.InvalidId) after =
      ((id.number ≡ 1) ⊎ (object_in before id ≡ None)) × IsUnchanged before after × (after.refused ≡ false)
  DestroyedAs before id (Err destroy.OutOfMemory) after = (object_in after id ≡ object_in before id) × (after.refused ≡ true)

  pub record DestroysObject (before : BackendState T U G C) (id : IdParts) (answer : Result (Unit {0}) DestroyError) (after : BackendState T U G C) : Type 0 where
    pub object : DestroyedAs before id answer after
    pub objects : OtherObjectsStay before id after
    pub clients : OtherClientsStay before id.client after
    pub stored : (client : ClientParts) → is_some (client_in after client) ≡ is_some (client_in before client)
    pub globals : GlobalsStay before after

  -- The answer is the id of a new object of that interface and version, with the data. Or nothing has changed.
  abbrev pub CreatedAs : {E : Type 0} → BackendState T U G C → ClientParts → InterfaceId → ℕ → U → Result IdParts E → BackendState T U G C → Type 0
  CreatedAs before client i version u (Ok id) after =
      (id.client ≡ client) × (id.interface ≡ i) × (object_in before id ≡ None) × (object_in after id ≡ Some (fresh_object i version id.serial (Some u)))
      × OtherObjectsStay before id after
  CreatedAs before client i version u (Err e) after = IsUnchanged before after

  pub record CreatesObject (before : BackendState T U G C) (client : ClientParts) (i : InterfaceId) (version : ℕ) (u : U) (answer : Result IdParts CreateError)
      (after : BackendState T U G C) : Type 0 where
    pub object : CreatedAs before client i version u answer after
    pub clients : OtherClientsStay before client after
    pub notes : (other : ClientParts) → notes_made_in after other ≡ notes_made_in before other
    pub globals : GlobalsStay before after
    pub memory : after.refused ≡ lacks_create answer

  -- ---- the ends of actions

  -- the action of the client that is open
  abbrev pub action_in : BackendState T U G C → ClientParts → Option OpenAction
  action_in b client = and_then (client_in b client) (λ p. p.action)

  -- the object of the client that the id names
  abbrev pub object_of_client : BackendState T U G C → ClientParts → IdParts → Option (Object (Kept U))
  object_of_client b client id = and_then (client_in b client) (λ p. named p.store id)

  -- A bind is ended: no action is open any longer, and the object that it made has the data, if it is still kept. Or the
  -- data are given back, and nothing has changed.
  abbrev pub BindEndedAs : BackendState T U G C → ClientParts → U → Result (Unit {0}) (FinishRefused U) → BackendState T U G C → Type 0
  BindEndedAs before client u (Ok _) after =
      (object : IdParts) × (action_in before client ≡ Some (opened.Bind object)) × (action_in after client ≡ None)
      × (object_of_client after client object ≡ option_map (with_user_data u) (object_of_client before client object))
      × ((other : IdParts) → same_id (id_of object) (id_of other) ≡ false → object_of_client after client other ≡ object_of_client before client other)
  BindEndedAs before client u (Err refused) after = (refused.user_data ≡ u) × IsUnchanged before after

  pub record EndsBind (before : BackendState T U G C) (client : ClientParts) (u : U) (answer : Result (Unit {0}) (FinishRefused U)) (after : BackendState T U G C) : Type 0 where
    pub bind : BindEndedAs before client u answer after
    pub clients : OtherClientsStay before client after
    pub notes : (other : ClientParts) → notes_made_in after other ≡ notes_made_in before other
    pub globals : GlobalsStay before after
    pub memory : after.refused ≡ false

  -- whether the client is killed, if it is stored
  abbrev pub killed_in : BackendState T U G C → ClientParts → Option Bool
  killed_in b client = option_map (λ p. p.is_killed) (client_in b client)

  -- there are data exactly if the request made an object; for a killed client they may be missing
  abbrev pub DataFit : BackendState T U G C → ClientParts → Option IdParts → Option U → Type 0
  DataFit before client None u = u ≡ None
  DataFit before client (Some made) u = IsSome u ⊎ (killed_in before client ≡ Some true)

  -- what is noted of the sender that a request ends
  abbrev pub sender_notes : BackendState T U G C → ClientParts → IdParts → Bool → List (Happening U)
  sender_notes before client sender is_destructor =
      notes_if_kept client sender.number (if is_destructor then object_of_client before client sender else None)

  -- The sender that leaves is noted. If the client could not be told that the number is free, it is killed, and that is
  -- noted too.
  abbrev pub EndIsTold : BackendState T U G C → ClientParts → IdParts → Bool → BackendState T U G C → Type 0
  EndIsTold before client sender is_destructor after =
      ((killed_in after client ≡ killed_in before client)
      × (notes_made_in after client ≡ notes_made_in before client ++ sender_notes before client sender is_destructor))
      ⊎ ((is_destructor ≡ true) × (killed_in after client ≡ Some true)
      × (notes_made_in after client
      ≡ notes_made_in before client ++ (sender_notes before client sender is_destructor ++ end_note_of (client_in before client) ConnectionClosed)))

  -- No action is open any longer. The sender of a request that ends it is gone, the object that the request made has the
  -- data, if it is still kept, and each other id of the client names what it named.
  pub record RequestIsEnded (before : BackendState T U G C) (client : ClientParts) (sender : IdParts) (is_destructor : Bool) (created : Option IdParts) (u : Option U)
      (after : BackendState T U G C) : Type 0 where
    pub was_open : action_in before client ≡ Some (opened.Request sender is_destructor created)
    pub is_finished : action_in after client ≡ None
    pub fits : DataFit before client created u
    pub gone : is_destructor ≡ true → object_of_client after client sender ≡ None
    pub made : (id : IdParts) → created ≡ Some id → is_ended is_destructor sender id ≡ false
        → object_of_client after client id ≡ option_map (with_given u) (object_of_client before client id)
    pub others : (id : IdParts) → is_ended is_destructor sender id ≡ false → is_made created id ≡ false
        → object_of_client after client id ≡ object_of_client before client id
    pub told : EndIsTold before client sender is_destructor after

  -- the call was refused: nothing has changed, and memory was not refused
  abbrev pub IsRefusedWhole : BackendState T U G C → BackendState T U G C → Type 0
  IsRefusedWhole before after = IsUnchanged before after × (after.refused ≡ false)

  -- Why the end of a request is refused. Nothing is changed then. Only if memory was refused for the end of the sender, some
  -- of what waited may have been sent.
  abbrev pub RequestRefusedAs : BackendState T U G C → ClientParts → Option U → FinishError → BackendState T U G C → Type 0
  RequestRefusedAs before client u finish.InvalidId after = (client_in before client ≡ None) × IsRefusedWhole before after
  RequestRefusedAs before client u finish.NoOpenAction after =
      IsSome (client_in before client) × (action_in before client ≡ None) × IsRefusedWhole before after
  RequestRefusedAs before client u finish.WrongKind after =
      (object : IdParts) × (action_in before client ≡ Some (opened.Bind object)) × IsRefusedWhole before after
  RequestRefusedAs before client u finish.MissingObjectData after =
      (sender : IdParts) × (is_destructor : Bool) × (made : IdParts) × (action_in before client ≡ Some (opened.Request sender is_destructor (Some made)))
      × (u ≡ None) × (killed_in before client ≡ Some false) × IsRefusedWhole before after
  RequestRefusedAs before client u finish.UnexpectedData after =
      (sender : IdParts) × (is_destructor : Bool) × (action_in before client ≡ Some (opened.Request sender is_destructor None))
      × IsSome u × IsRefusedWhole before after
  RequestRefusedAs before client u finish.OutOfMemory after =
      (sender : IdParts) × (created : Option IdParts) × (action_in before client ≡ Some (opened.Request sender true created))
      × IsSome (object_of_client before client sender)
      × (option_map core_of (client_in after client) ≡ option_map core_of (client_in before client))
      × (notes_made_in after client ≡ notes_made_in before client) × (after.refused ≡ true)

  abbrev pub RequestEndedAs : BackendState T U G C → ClientParts → Option U → Result (Unit {0}) (FinishRefused (Option U)) → BackendState T U G C → Type 0
  RequestEndedAs before client u (Ok _) after =
      (sender : IdParts) × (is_destructor : Bool) × (created : Option IdParts) × RequestIsEnded before client sender is_destructor created u after
      × (after.refused ≡ false)
  RequestEndedAs before client u (Err refused) after = (refused.user_data ≡ u) × RequestRefusedAs before client u refused.error after

  pub record EndsOpenRequest (before : BackendState T U G C) (client : ClientParts) (u : Option U) (answer : Result (Unit {0}) (FinishRefused (Option U)))
      (after : BackendState T U G C) : Type 0 where
    pub request : RequestEndedAs before client u answer after
    pub clients : OtherClientsStay before client after
    pub stored : (other : ClientParts) → is_some (client_in after other) ≡ is_some (client_in before other)
    pub globals : GlobalsStay before after

  -- ---- the data of an action

  -- If the object that a bind made is kept, it has the data. Else they come back. A finish gives no id to another object, so
  -- it is the same whether one asks before the data are given or after the call.
  abbrev pub ReturnsBindData : BackendState T U G C → ClientParts → U → Result (Option U) (FinishRefused U) → BackendState T U G C → Type 0
  ReturnsBindData before client u (Ok back) after =
      (object : IdParts) × (action_in before client ≡ Some (opened.Bind object)) × HoldsData (object_of_client after client object) u back
  ReturnsBindData before client u (Err refused) after = refused.user_data ≡ u

  -- the same of the object that a request made, if it made one and data were given; else nothing comes back
  abbrev pub RequestDataHeld : BackendState T U G C → ClientParts → Option IdParts → Option U → Option U → Type 0
  RequestDataHeld after client (Some made) (Some u) back = HoldsData (object_of_client after client made) u back
  RequestDataHeld after client _ _ back = back ≡ None

  abbrev pub ReturnsRequestData : BackendState T U G C → ClientParts → Option U → Result (Option U) (FinishRefused (Option U)) → BackendState T U G C → Type 0
  ReturnsRequestData before client u (Ok back) after =
      (sender : IdParts) × (is_destructor : Bool) × (created : Option IdParts) × (action_in before client ≡ Some (opened.Request sender is_destructor created))
      × RequestDataHeld after client created u back
  ReturnsRequestData before client u (Err refused) after = refused.user_data ≡ u

  -- ---- the calls on clients

  -- The client is killed, if it is stored, and else as it was.
  pub record KillsClient (before : BackendState T U G C) (id : ClientParts) (reason : DisconnectReason) (after : BackendState T U G C) : Type 0 where
    pub client : client_in after id ≡ option_map as_killed (client_in before id)
    pub noted : notes_made_in after id ≡ notes_made_in before id ++ end_note_of (client_in before id) reason
    pub objects : ObjectsStay before after
    pub clients : OtherClientsStay before id after
    pub globals : GlobalsStay before after
    pub memory : after.refused ≡ false

  -- the answer of a flush: always `Ok` for all clients, and for one that is not stored
  abbrev pub FlushedAs : (T → Queue → Result ℕ IoFault → T → Type 0) → BackendState T U G C → Option ClientParts → Result (Unit {0}) IoFault → BackendState T U G C
      → Type 0
  FlushedAs sends before None answer after =
      (answer ≡ Ok tt)
      × ((id : ClientParts) (p : Part T U C) → client_in before id ≡ Some p → p.is_killed ≡ true → seen id after.server ≡ seen id before.server)
  FlushedAs sends before (Some id) answer after =
      MatchOption (client_in before id) ((answer ≡ Ok tt) × IsUnchanged before after)
      (λ p. (link : LinkState T) × Flushed sends p.link answer link × (client_in after id ≡ Some (record p { link = link })))
      × OtherClientsStay before id after

  -- After a flush of one client memory was refused exactly if the answer is `OutOfMemory`. After one of all clients it was only if
  -- the flush of some live client answered that.
  abbrev pub FlushMemory : (T → Queue → Result ℕ IoFault → T → Type 0) → BackendState T U G C → Option ClientParts → Result (Unit {0}) IoFault → BackendState T U G C
      → Type 0
  FlushMemory sends before None answer after =
      after.refused ≡ true →
      (id : ClientParts) × (p : Part T U C) × (link : LinkState T) × (client_in before id ≡ Some p) × (p.is_killed ≡ false)
      × Flushed sends p.link (Err fault.OutOfMemory) link × (client_in after id ≡ Some (record p { link = link }))
  FlushMemory sends before (Some id) answer after = after.refused ≡ lacks_memory answer

  -- A flush changes nothing of a client but its link: the transport, and what waits to be sent.
  pub record FlushesClients (sends : T → Queue → Result ℕ IoFault → T → Type 0) (before : BackendState T U G C) (target : Option ClientParts) (answer : Result (Unit {0}) IoFault)
      (after : BackendState T U G C) : Type 0 where
    pub answered : FlushedAs sends before target answer after
    pub cores : (id : ClientParts) → option_map core_of (client_in after id) ≡ option_map core_of (client_in before id)
    pub notes : (id : ClientParts) → notes_made_in after id ≡ notes_made_in before id
    pub objects : ObjectsStay before after
    pub globals : GlobalsStay before after
    pub memory : FlushMemory sends before target answer after

  -- ---- a cleanup

  -- Each killed client is handed out. A live one stays, and its notes that waited are made. Of other ids nothing is handed
  -- out. Memory was refused only if the last flush of some killed client answered `OutOfMemory`.
  pub record CleansTo (sends : T → Queue → Result ℕ IoFault → T → Type 0) (before : BackendState T U G C) (out : List (ClientParts × T)) (after : BackendState T U G C) : Type 0 where
    pub killed : (id : ClientParts) (p : Part T U C) → client_in before id ≡ Some p → p.is_killed ≡ true → HandsOut sends p (share_of id out) (client_in after id)
    pub live : (id : ClientParts) (p : Part T U C) → client_in before id ≡ Some p → p.is_killed ≡ false
        → (share_of id out ≡ []) × (client_in after id ≡ Some (record p { waiting = [] })) × (notes_made_in after id ≡ notes_made_in before id ++ p.waiting)
    pub unknown : (id : ClientParts) → client_in before id ≡ None → (share_of id out ≡ []) × (seen id after.server ≡ seen id before.server)
    pub by_slot : RiseBySlot out
    pub globals : GlobalsStay before after
    pub memory : after.refused ≡ true →
        (id : ClientParts) × (p : Part T U C) × (link : LinkState T) × (client_in before id ≡ Some p) × (p.is_killed ≡ true)
        × Flushed sends p.link (Err fault.OutOfMemory) link × (share_of id out ≡ link.transport ∷ [])

  abbrev pub CleansUpClients : (T → Queue → Result ℕ IoFault → T → Type 0) → BackendState T U G C → Result (Vec (ClientParts × T) Global) OutOfMemory → BackendState T U G C
      → Type 0
  CleansUpClients sends before answer after =
      MatchResult answer (λ out. CleansTo sends before out.items after) (λ _. IsUnchanged before after × (after.refused ≡ true))

  -- ---- notes

  -- The notes that were made are handed out, those of each client in order, and none is left. All else is as before.
  pub record TakesAll (before : BackendState T U G C) (out : List (Note U)) (after : BackendState T U G C) : Type 0 where
    pub taken : (id : ClientParts) → notes_of id out ≡ notes_made_in before id
    pub left : (id : ClientParts) → notes_made_in after id ≡ []
    pub clients : (id : ClientParts) → client_in after id ≡ client_in before id
    pub objects : ObjectsStay before after
    pub globals : GlobalsStay before after
    pub memory : after.refused ≡ false

  abbrev pub TakesNotes : BackendState T U G C → Result (Vec (Note U) Global) OutOfMemory → BackendState T U G C → Type 0
  TakesNotes before answer after =
      MatchResult answer (λ out. TakesAll before out.items after) (λ _. IsUnchanged before after × (after.refused ≡ true))
