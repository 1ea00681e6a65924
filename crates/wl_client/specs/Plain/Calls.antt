-- What a program finds after the calls that are about neither a request nor an event, in the words of the look-ups.
--
-- A contract that cites one of these has another clause beside it, `call`, from which it follows.
use Rattle.std.specs.Option.{option_to_list}
use Rattle.std.specs.Prelude.{◌≡◌, ◌⊎◌, ◌++◌, ℕ, List, [], Bool, true, false, Option, None, Some, IsSome, unwrap_or, Result, Ok, Err, MatchOption, MatchResult}
use Rattle.wl_wire.specs.declared.error.IoFault.{IoFault}
use Rattle.wl_wire.specs.declared.error.IoFault.TheVariants as fault
use Rattle.wl_wire.specs.declared.protocol.TableError.{TableError}
use Rattle.wl_wire.specs.Table.{AnswersTo, Extension, Growth, InterfaceRow, LongerRow, NewRows, table_after}
use Rattle.wl_link.specs.declared.object.Object.{Object}
use Rattle.wl_link.specs.Exchange.{Queue}
use Rattle.wl_link.specs.Link.{Flushed, LimitSet}
use Rattle.wl_link.specs.Store.{held}
use Rattle.wl_client.specs.declared.error.DestroyError.{DestroyError}
use Rattle.wl_client.specs.declared.error.DestroyError.TheVariants as destroy
use Rattle.wl_client.specs.declared.error.FlushError.{FlushError}
use Rattle.wl_client.specs.declared.error.FlushError.TheVariants as flush
use Rattle.wl_client.specs.declared.error.InvalidId.{InvalidId}
use Rattle.wl_client.specs.declared.error.WaylandError.{WaylandError}
use Rattle.wl_client.specs.declared.error.WaylandError.TheVariants.{Io}
use Rattle.wl_client.specs.declared.objects.Kept.{Kept}
use Rattle.wl_client.specs.declared.objects.Note.{Note}
use Rattle.wl_client.specs.ObjectId.{IdParts}
use Rattle.wl_client.specs.Objects.{destroyable, user_data_of}
use Rattle.wl_client.specs.Plain.{FreedStay, SettingsStay, object_of, same_object}
use Rattle.wl_client.specs.Session.{SessionState, flagged, id_at, noted, with_user_data}

-- the session gets this fault as its error; after `WouldBlock` and `OutOfMemory` more may be sent later
abbrev pub EndsSession : IoFault → Type 0
EndsSession fault.WouldBlock = ⊥
EndsSession fault.OutOfMemory = ⊥
EndsSession _ = Unit {0}

module _ {T U : Type 0} where
  -- ---- what is as before

  -- the objects are as before
  abbrev pub ObjectsStay : SessionState T U → SessionState T U → Type 0
  ObjectsStay before after = after.store ≡ before.store

  -- each id but this one names what it named
  abbrev pub OtherObjectsStay : SessionState T U → IdParts → SessionState T U → Type 0
  OtherObjectsStay before id after = (other : IdParts) → same_object id other ≡ false → object_of after other ≡ object_of before other

  -- the event that is open, the error, the table and the last serial that was given out are as before
  abbrev pub RestStays : SessionState T U → SessionState T U → Type 0
  RestStays before after = (after.open_event ≡ before.open_event) × (after.error ≡ before.error) × (after.table ≡ before.table) × (after.last_serial ≡ before.last_serial)

  -- ---- the calls on objects

  -- The object that the id names has the data, and is otherwise as it was. Or the id names none, and nothing has changed.
  pub record SetsData (before : SessionState T U) (id : IdParts) (u : U) (answer : Result (Unit {0}) InvalidId) (after : SessionState T U) : Type 0 where
    pub object : MatchResult answer
        (λ _. (x : Object (Kept U)) × (object_of before id ≡ Some x) × (object_of after id ≡ Some (with_user_data u x)))
        (λ _. (object_of before id ≡ None) × (after ≡ before))
    pub objects : OtherObjectsStay before id after
    pub notes : after.notes ≡ before.notes
    pub link : after.link ≡ before.link
    pub rest : RestStays before after
    pub settings : SettingsStay before after

  -- The closure is called once with the user data of the object that the id names, which has what the call left. Without such
  -- data it is not called, and nothing has changed.
  abbrev pub SetsWhatIsLeft : {R : Type 0} → (U → R → U → Type 0) → SessionState T U → IdParts → Result R InvalidId → SessionState T U → Type 0
  SetsWhatIsLeft call before id answer after =
      MatchOption (user_data_of before id) ((answer ≡ Err _) × (after ≡ before))
      (λ u. (r : _) × (left : U) × call u r left × (answer ≡ Ok r) × SetsData before id left (Ok tt) after)

  -- The object is flagged as destroyed by the client, and noted if it has data. Or the client may not destroy it by this id. Or
  -- there was no memory for the note. An error changes nothing.
  abbrev pub DestroyedAs : SessionState T U → IdParts → Result (Unit {0}) DestroyError → SessionState T U → Type 0
  DestroyedAs before id (Ok _) after =
      (x : Object (Kept U)) × (destroyable before id ≡ Some x) × (object_of after id ≡ Some (flagged true x))
      × (after.notes ≡ noted before.notes x.value.user_data (id_at id.number x))
  DestroyedAs before id (Err destroy.InvalidId) after = (destroyable before id ≡ None) × (after ≡ before)
  DestroyedAs before id (Err destroy.OutOfMemory) after =
      (x : Object (Kept U)) × (destroyable before id ≡ Some x) × IsSome x.value.user_data × (after ≡ before)

  pub record DestroysObject (before : SessionState T U) (id : IdParts) (answer : Result (Unit {0}) DestroyError) (after : SessionState T U) : Type 0 where
    pub object : DestroyedAs before id answer after
    pub objects : OtherObjectsStay before id after
    pub link : after.link ≡ before.link
    pub rest : RestStays before after
    pub settings : SettingsStay before after

  -- The object that the id names had been given up by both sides, and is gone. Or it was not so, and nothing has changed.
  pub record ReclaimsObject (before : SessionState T U) (id : IdParts) (answer : Result (Unit {0}) InvalidId) (after : SessionState T U) : Type 0 where
    pub object : MatchResult answer
        (λ _. (x : Object (Kept U)) × (object_of before id ≡ Some x) × (x.value.client_destroyed ≡ true) × (x.value.id_deleted ≡ true)
        × (held after.store id.number ≡ None))
        (λ _. ((x : Object (Kept U)) → object_of before id ≡ Some x → x.value.client_destroyed ≡ true → ¬ (x.value.id_deleted ≡ true)) × (after ≡ before))
    pub objects : OtherObjectsStay before id after
    pub notes : after.notes ≡ before.notes
    pub link : after.link ≡ before.link
    pub rest : RestStays before after
    pub settings : SettingsStay before after

  -- ---- the connection

  -- A session that has an error sends nothing. Another one sends what waits. `WouldBlock` and `OutOfMemory` are the answer. Any
  -- other fault becomes the session's error, and the answer is `Failed`.
  abbrev pub FlushedAs : (T → Queue → Result ℕ IoFault → T → Type 0) → SessionState T U → Result (Unit {0}) FlushError → SessionState T U → Type 0
  FlushedAs sends before (Ok _) after = (before.error ≡ None) × Flushed sends before.link (Ok tt) after.link × (after.error ≡ None)
  FlushedAs sends before (Err flush.WouldBlock) after =
      (before.error ≡ None) × Flushed sends before.link (Err fault.WouldBlock) after.link × (after.error ≡ None)
  FlushedAs sends before (Err flush.OutOfMemory) after =
      (before.error ≡ None) × Flushed sends before.link (Err fault.OutOfMemory) after.link × (after.error ≡ None)
  FlushedAs sends before (Err flush.Failed) after =
      (IsSome before.error × (after ≡ before))
      ⊎ ((before.error ≡ None)
      × ((f : IoFault) × EndsSession f × Flushed sends before.link (Err f) after.link × (after.error ≡ Some (Io f))))

  -- A flush changes nothing but the link, and the error if it meets one.
  pub record FlushesSession (sends : T → Queue → Result ℕ IoFault → T → Type 0) (before : SessionState T U) (answer : Result (Unit {0}) FlushError)
      (after : SessionState T U) : Type 0 where
    pub answered : FlushedAs sends before answer after
    pub objects : ObjectsStay before after
    pub last_serial : after.last_serial ≡ before.last_serial
    pub open_event : after.open_event ≡ before.open_event
    pub notes : after.notes ≡ before.notes
    pub table : after.table ≡ before.table
    pub settings : SettingsStay before after

  -- The buffers have the limit. Nothing else has changed.
  pub record SetsLimit (before : SessionState T U) (limit : Option ℕ) (after : SessionState T U) : Type 0 where
    pub link : LimitSet before.link limit after.link
    pub objects : ObjectsStay before after
    pub notes : after.notes ≡ before.notes
    pub rest : RestStays before after
    pub settings : SettingsStay before after

  -- The session passes over messages of unknown senders from now on, or does not. Nothing else has changed.
  pub record SetsPassingOver (before : SessionState T U) (passes : Bool) (after : SessionState T U) : Type 0 where
    pub passes_over : after.passes_over ≡ passes
    pub objects : ObjectsStay before after
    pub notes : after.notes ≡ before.notes
    pub link : after.link ≡ before.link
    pub rest : RestStays before after
    pub freed : FreedStay before after

  -- The session has the error that it had, or else this one, and no event is open. Nothing else has changed.
  pub record FailsBy (before : SessionState T U) (e : WaylandError) (after : SessionState T U) : Type 0 where
    pub error : after.error ≡ Some (unwrap_or before.error e)
    pub closed : after.open_event ≡ None
    pub objects : ObjectsStay before after
    pub last_serial : after.last_serial ≡ before.last_serial
    pub notes : after.notes ≡ before.notes
    pub link : after.link ≡ before.link
    pub table : after.table ≡ before.table
    pub settings : SettingsStay before after

  -- ---- the ids of objects that left their numbers

  -- They are kept from now on, or no more. Those that wait go on waiting if they were kept and are. Nothing else has changed.
  pub record SetsKeepingFreed (before : SessionState T U) (keeps : Bool) (after : SessionState T U) : Type 0 where
    pub set : after.keeps_freed ≡ keeps
    pub kept : before.keeps_freed ≡ true → keeps ≡ true → after.freed ≡ before.freed
    pub begun : before.keeps_freed ≡ false → after.freed ≡ []
    pub ended : keeps ≡ false → after.freed ≡ []
    pub objects : ObjectsStay before after
    pub notes : after.notes ≡ before.notes
    pub link : after.link ≡ before.link
    pub rest : RestStays before after
    pub passes_over : after.passes_over ≡ before.passes_over

  -- The first of those that wait is handed out, if there is one. Nothing else has changed.
  pub record TakesFreed (before : SessionState T U) (answer : Option IdParts) (after : SessionState T U) : Type 0 where
    pub taken : before.freed ≡ option_to_list answer ++ after.freed
    pub none : answer ≡ None → before.freed ≡ []
    pub kept : after.keeps_freed ≡ before.keeps_freed
    pub objects : ObjectsStay before after
    pub notes : after.notes ≡ before.notes
    pub link : after.link ≡ before.link
    pub rest : RestStays before after
    pub passes_over : after.passes_over ≡ before.passes_over

  -- ---- notes and interfaces

  -- The notes are handed out, in order, and none is left. Nothing else has changed.
  pub record TakesNotes (before : SessionState T U) (out : List Note) (after : SessionState T U) : Type 0 where
    pub taken : out ≡ before.notes
    pub left : after.notes ≡ []
    pub objects : ObjectsStay before after
    pub link : after.link ≡ before.link
    pub rest : RestStays before after
    pub settings : SettingsStay before after

  -- The table has grown by that. Or it answers why not, and is as before. Nothing else has changed.
  pub record GrowsTable (before : SessionState T U) (growth : Growth) (answer : Result (Unit {0}) TableError) (after : SessionState T U) : Type 0 where
    pub answered : AnswersTo before.table growth answer
    pub table : after.table ≡ table_after before.table growth answer
    pub objects : ObjectsStay before after
    pub last_serial : after.last_serial ≡ before.last_serial
    pub notes : after.notes ≡ before.notes
    pub link : after.link ≡ before.link
    pub open_event : after.open_event ≡ before.open_event
    pub error : after.error ≡ before.error
    pub settings : SettingsStay before after

  -- the new rows follow the others
  abbrev pub AddsInterfaces : SessionState T U → List InterfaceRow → Result (Unit {0}) TableError → SessionState T U → Type 0
  AddsInterfaces before rows answer after = GrowsTable before (NewRows rows) answer after

  -- the new messages follow those of their interface
  abbrev pub ExtendsInterface : SessionState T U → Extension → Result (Unit {0}) TableError → SessionState T U → Type 0
  ExtendsInterface before more answer after = GrowsTable before (LongerRow more) answer after
