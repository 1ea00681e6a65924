-- What a program finds after an event was sent, and after an error was posted, in the words of the look-ups.
--
-- A contract that cites one of these has another clause beside it, `call`, from which it follows.
use Rattle.std.specs.Prelude.{◌≡◌, ◌≢◌, ◌⊎◌, ℕ, List, [], ◌∷◌, ◌++◌, Bool, true, false, ◌==◌, if◌then◌else◌, None, Some, IsSome, is_some, Result, Ok, Err, MatchBool, option_map}
use Rattle.wl_wire.specs.Table.{InterfaceRow}
use Rattle.wl_link.specs.declared.object.Object.{Object}
use Rattle.wl_server_client.specs.declared.error.EventError.{EventError}
use Rattle.wl_server_client.specs.declared.error.EventError.TheVariants as refused
use Rattle.wl_server_client.specs.declared.notes.DisconnectReason.{DisconnectReason}
use Rattle.wl_server_client.specs.declared.notes.DisconnectReason.TheVariants.{ConnectionClosed, ProtocolError as BrokeProtocol}
use Rattle.wl_server_client.specs.declared.notes.Happening.TheVariants.{Disconnected}
use Rattle.wl_server_client.specs.declared.objects.Kept.{Kept}
use Rattle.wl_server_model.specs.Backend.{BackendState}
use Rattle.wl_server_client.specs.Errors.{error_of}
use Rattle.wl_server_client.specs.Events.{SessionMessage, event_check}
use Rattle.wl_server_client.specs.Ids.{ClientParts, IdParts}
use Rattle.wl_server_client.specs.Part.{Part, note_of_end}
use Rattle.wl_server_model.specs.Plain.{GlobalsStay, IsUnchanged, ObjectsStay, OtherClientsStay, OtherObjectsStay, as_killed, client_in, end_note_of, killed_in, notes_made_in, notes_waiting_in, object_in}
use Rattle.wl_server_client.specs.Telling.{core_of}

-- what a client is killed for if an error is posted on an object of it: the error, or that it could not be told of it
abbrev pub IsReasonOfError : List InterfaceRow → IdParts → ℕ → List ℕ → DisconnectReason → Type 0
IsReasonOfError table id code text reason = (reason ≡ BrokeProtocol (error_of table id code text)) ⊎ (reason ≡ ConnectionClosed)

module _ {T U G C : Type 0} where
  -- ---- an event

  -- the client lives on, and nothing is noted; or it could not be told of something and is killed, which is noted
  abbrev pub LivesOrIsClosed : BackendState T U G C → ClientParts → BackendState T U G C → Type 0
  LivesOrIsClosed before client after =
      ((killed_in after client ≡ Some false) × (notes_made_in after client ≡ notes_made_in before client))
      ⊎ ((killed_in after client ≡ Some true) × (notes_made_in after client ≡ notes_made_in before client ++ Disconnected ConnectionClosed ∷ []))

  -- An event of this sender is put. If it ends the sender, that is gone, and its note waits for the next cleanup, if it had
  -- data.
  pub record EventIsPut (before : BackendState T U G C) (sender : IdParts) (x : Object (Kept U)) (ends : Bool) (after : BackendState T U G C) : Type 0 where
    pub was : object_in before sender ≡ Some x
    pub object : object_in after sender ≡ (if ends then None else Some x)
    pub waiting : notes_waiting_in after sender.client ≡ notes_waiting_in before sender.client ++ (if ends then note_of_end sender.client sender.number x else [])
    pub told : LivesOrIsClosed before sender.client after

  -- the check of an event to a live client comes to this: it is granted to the sender, and ends it or not; or it is refused
  abbrev pub ChecksTo : BackendState T U G C → SessionMessage → Result (Object (Kept U) × Bool) EventError → Type 0
  ChecksTo before m checked =
      (p : Part T U C) × (client_in before m.sender.client ≡ Some p) × (p.is_killed ≡ false)
      × (event_check m.sender.client p.store before.server.offer.table m ≡ checked)

  -- To a killed client nothing is sent. To a live one an event that is granted is put, unless memory is refused: then the client
  -- and its objects are as before, but some of what waited may have been sent. An event that is refused for another reason
  -- changes nothing.
  abbrev pub EventSentAs : BackendState T U G C → SessionMessage → Result (Unit {0}) EventError → BackendState T U G C → Type 0
  EventSentAs before m (Ok _) after =
      ((killed_in before m.sender.client ≡ Some true) × IsUnchanged before after)
      ⊎ ((x : Object (Kept U)) × (ends : Bool) × ChecksTo before m (Ok (x, ends)) × EventIsPut before m.sender x ends after)
  EventSentAs before m (Err refused.OutOfMemory) after =
      ((granted : Object (Kept U) × Bool) × ChecksTo before m (Ok granted)) × (after.refused ≡ true)
      × (option_map core_of (client_in after m.sender.client) ≡ option_map core_of (client_in before m.sender.client))
      × (notes_made_in after m.sender.client ≡ notes_made_in before m.sender.client)
  EventSentAs before m (Err e) after =
      (((client_in before m.sender.client ≡ None) × (e ≡ refused.InvalidId)) ⊎ ChecksTo before m (Err e)) × IsUnchanged before after

  -- After an error memory was refused exactly if the answer is `OutOfMemory`. After `Ok` it was only if this call killed the client,
  -- since it could not be told that a number is free.
  abbrev pub EventMemory : BackendState T U G C → ClientParts → Result (Unit {0}) EventError → BackendState T U G C → Type 0
  EventMemory before client (Ok _) after = after.refused ≡ true → (killed_in before client ≡ Some false) × (killed_in after client ≡ Some true)
  EventMemory before client (Err refused.OutOfMemory) after = after.refused ≡ true
  EventMemory before client (Err e) after = after.refused ≡ false

  pub record EmitsEvent (before : BackendState T U G C) (m : SessionMessage) (answer : Result (Unit {0}) EventError) (after : BackendState T U G C) : Type 0 where
    pub event : EventSentAs before m answer after
    pub objects : OtherObjectsStay before m.sender after
    pub clients : OtherClientsStay before m.sender.client after
    pub stored : (client : ClientParts) → is_some (client_in after client) ≡ is_some (client_in before client)
    pub globals : GlobalsStay before after
    pub memory : EventMemory before m.sender.client answer after

  -- ---- an error

  -- The client is killed, if it is stored, and otherwise as it was but for its link. Its end is noted, unless it was killed
  -- before.
  abbrev pub ErrorPostedAs : BackendState T U G C → IdParts → ℕ → List ℕ → BackendState T U G C → Type 0
  ErrorPostedAs before id code text after =
      (reason : DisconnectReason) × IsReasonOfError before.server.offer.table id code text reason
      × (option_map core_of (client_in after id.client) ≡ option_map (λ p. core_of (as_killed p)) (client_in before id.client))
      × (notes_made_in after id.client ≡ notes_made_in before id.client ++ end_note_of (client_in before id.client) reason)

  -- If the id is null, nothing has changed. Memory was refused only if the id is not null and its client is stored.
  pub record KillsForError (before : BackendState T U G C) (id : IdParts) (code : ℕ) (text : List ℕ) (after : BackendState T U G C) : Type 0 where
    pub client : MatchBool (id.number == 0) (IsUnchanged before after) (ErrorPostedAs before id code text after)
    pub objects : ObjectsStay before after
    pub clients : OtherClientsStay before id.client after
    pub globals : GlobalsStay before after
    pub memory : after.refused ≡ true → (id.number ≢ 0) × IsSome (client_in before id.client)
