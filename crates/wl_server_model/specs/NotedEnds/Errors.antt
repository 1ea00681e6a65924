-- Which errors the notes of a client tell of: those that the program gave, and those about the client's display.
use Rattle.std.specs.Prelude.{◌≡◌, ◌⊎◌, ℕ, List, [], ◌∷◌, ◌++◌, true, Contains}
use Rattle.wl_wire.specs.declared.error.ProtocolError.{ProtocolError}
use Rattle.wl_wire.specs.Table.{InterfaceRow}
use Rattle.wl_server_client.specs.declared.notes.DisconnectReason.TheVariants.{ProtocolError as BrokeProtocol}
use Rattle.wl_server_client.specs.declared.notes.Happening.TheVariants.{Disconnected}
use Rattle.wl_server_model.specs.declared.step.Step.TheVariants as step
use Rattle.wl_server_client.specs.Errors.{error_of}
use Rattle.wl_server_client.specs.Globals.{Offer, new_offer}
use Rattle.wl_server_model.specs.Identified.{waiting_of}
use Rattle.wl_server_client.specs.Ids.{ClientParts, same_client}
use Rattle.wl_server_client.specs.Part.{display_of}
use Rattle.wl_server_model.specs.PartStep.{Asked, Call, World}
use Rattle.wl_server_model.specs.Server.{Seen, ServerState, seen}
use Rattle.wl_server_model.specs.Steps.{Entry, OneStep, offer_after}

-- the error is about the display of the client
abbrev pub IsOfDisplay : List InterfaceRow → ClientParts → ProtocolError → Type 0
IsOfDisplay table client error = (code : ℕ) × (text : List ℕ) × (error ≡ error_of table (display_of client) code text)

-- a note of the client that was not handed out, whether it was made or waits, tells that the client was killed for the error
abbrev pub TellsError : {T U C : Type 0} → Seen T U C → ProtocolError → Type 0
TellsError s error = Contains (s.made ++ waiting_of s.part) (Disconnected (BrokeProtocol error))

module _ {T U G C : Type 0} where
  -- The call may kill the client for this error: the program posts it on an object of the client, or kills the client for it;
  -- or the call reads the client, and the error is about its display.
  abbrev pub MayKillFor : List InterfaceRow → ClientParts → Call T U G C → ProtocolError → Type 0
  MayKillFor table id (Asked (step.PostError o code text) answer) error = (same_client o.client id ≡ true) × (error ≡ error_of table o code text)
  MayKillFor table id (Asked (step.KillClient target reason) answer) error = (same_client target id ≡ true) × (reason ≡ BrokeProtocol error)
  MayKillFor table id (Asked (step.NextAction target) answer) error = (same_client target id ≡ true) × IsOfDisplay table id error
  MayKillFor table id (Asked (step.NextActionWithin target reading) answer) error = (same_client target id ≡ true) × IsOfDisplay table id error
  MayKillFor table id call error = ⊥

  -- some call of the run may have killed the client for the error, by the table of that time
  abbrev pub MayHaveKilledFor : Offer G → ClientParts → List (Entry T U G C) → ProtocolError → Type 0
  MayHaveKilledFor offer id [] error = ⊥
  MayHaveKilledFor offer id (e ∷ run) error = MayKillFor offer.table id e.call error ⊎ MayHaveKilledFor (offer_after offer e.call) id run error

  -- so it is with each error that a note of a client tells of after the run
  abbrev pub EachErrorIsCaused : List InterfaceRow → List (Entry T U G C) → ServerState T U G C → Type 0
  EachErrorIsCaused table run after =
      (id : ClientParts) (error : ProtocolError) → TellsError (seen id after) error → MayHaveKilledFor (new_offer table) id run error

-- If a note of a client tells of an error after a call, one did before it, or the call may kill the client for the error.
abbrev pub EachCallCausesItsErrors : {T G C : Type 0} (U : Type 0) → World T G C → Type 0
EachCallCausesItsErrors {T} {G} {C} U w =
    (before after : ServerState T U G C) (e : Entry T U G C) → OneStep w before e after → (id : ClientParts) (error : ProtocolError)
    → TellsError (seen id after) error → TellsError (seen id before) error ⊎ MayKillFor before.offer.table id e.call error
