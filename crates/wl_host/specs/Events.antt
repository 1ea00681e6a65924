-- What the calls that send events and post errors do.
use Rattle.std.specs.Prelude.{◌≡◌, ◌≤◌, ◌^◌, ◌⊎◌, ℕ, List, true, Some, None, Result, Ok, Err, MatchOption}
use Rattle.wl_wire.specs.declared.argument.Token.{Token}
use Rattle.wl_wire.specs.declared.message.Message.{Message}
use Rattle.wl_server_model.specs.Backend.{Calls}
use Rattle.wl_server_client.specs.Ids.{IdParts}
use Rattle.wl_server_client.specs.declared.error.EventError.{EventError}
use Rattle.wl_server_model.specs.declared.step.Reply.TheVariants as reply
use Rattle.wl_server_model.specs.declared.step.Step.TheVariants as step
use Rattle.wl_host.specs.Actions.{marked}
use Rattle.wl_flat.specs.Arguments.{arguments_of, descriptors_given, has_zero}
use Rattle.wl_host.specs.Calls.{CoreState, status_by, world}
use Rattle.wl_flat.specs.Descriptors.{Descriptors, put_in}
use Rattle.wl_flat.specs.Flat.{client_of, resource_of}
use Rattle.wl_host.specs.Seats.{ledger_of, listed, with_ledger}
use Rattle.wl_host.specs.Server.{ServerState}
use Rattle.wl_flat.specs.Status.{of_event}
use Rattle.wl_flat.specs.declared.flat.FlatArgument.{FlatArgument}
use Rattle.wl_flat.specs.declared.flat.FlatObjectId.{FlatObjectId}
use Rattle.wl_host.specs.declared.server.ledger.Ledger.{Ledger}
use Rattle.wl_flat.specs.declared.status.Status.{Status}
use Rattle.wl_flat.specs.declared.status.Status.TheVariants as status

-- an event as the host passes it
pub record Passed : Type 0 where
  pub sender : FlatObjectId
  pub opcode : ℕ
  pub arguments : List FlatArgument
  pub bytes : List ℕ

-- The event that was passed, with tokens for its descriptors.
pub record IsEvent (p : Passed) (q : Descriptors) (event : Message IdParts Token) : Type 0 where
  pub sender : event.sender_id ≡ resource_of p.sender
  pub opcode : event.opcode ≡ p.opcode
  pub arguments : arguments_of resource_of p.bytes q p.arguments ≡ Some event.args.items

-- no event has so great an opcode, or an argument cannot be read
abbrev pub IsUnreadable : Passed → Descriptors → Type 0
IsUnreadable p q = (2 ^ 16 ≤ p.opcode) ⊎ (arguments_of resource_of p.bytes q p.arguments ≡ None)

-- what waits to be sent after the core's answer: a refused event takes no descriptors in
abbrev pub queue_with : Descriptors → Passed → Result (Unit {0}) EventError → Descriptors
queue_with q p (Ok u) = put_in q (descriptors_given p.arguments)
queue_with q p (Err e) = q

-- The event is read, and the core is asked to send it. Else nothing is changed.
abbrev pub SendsFrom : CoreState → Descriptors → Passed → Result Status Status → CoreState → Descriptors → Type 0
SendsFrom core q p (Ok s) core' q' =
    (event : Message IdParts Token) × (answer : Result (Unit {0}) EventError)
    × IsEvent p q event × Calls world core (step.SendEvent event) (reply.SendEvent answer) core'
    × (s ≡ status_by of_event answer) × (q' ≡ queue_with q p answer)
SendsFrom core q p (Err s) core' q' =
    (((s ≡ status.InvalidInput) × IsUnreadable p q) ⊎ (s ≡ status.OutOfMemory)) × (core' ≡ core) × (q' ≡ q)

-- for a client with this ledger
abbrev pub SendsEventOf : ServerState → Passed → Status → ServerState → Ledger → Type 0
SendsEventOf before p s after l =
    (q : Descriptors)
    × ((SendsFrom before.core l.sending p (Ok s) after.core q
    × (after ≡ marked (record before {
      core = after.core;
      seats = listed (with_ledger before.seats (client_of p.sender.client) (record l { sending = q })) p.sender.client.slot;
    })))
    ⊎ (SendsFrom before.core l.sending p (Err s) after.core q × (after ≡ before)))

-- The event is sent. The client of the sender may not be stored; then nothing is changed.
abbrev pub SendsEvent : ServerState → Passed → Status → ServerState → Type 0
SendsEvent before p s after =
    MatchOption (ledger_of (client_of p.sender.client) before.seats.ledgers) ((s ≡ status.InvalidId) × (after ≡ before))
    (SendsEventOf before p s after)

-- The core is asked to post the error. Or the message has a zero byte, or there was no memory for it, and nothing is changed.
abbrev pub PostsError : ServerState → FlatObjectId → ℕ → List ℕ → Status → ServerState → Type 0
PostsError before object code message s after =
    (Calls world before.core (step.PostError (resource_of object) code message) reply.PostError after.core × (s ≡ status.Ok)
    × (after ≡ marked (record before { core = after.core; seats = listed before.seats object.client.slot })))
    ⊎ ((((s ≡ status.InvalidInput) × (has_zero message ≡ true)) ⊎ (s ≡ status.OutOfMemory)) × (after ≡ before))
