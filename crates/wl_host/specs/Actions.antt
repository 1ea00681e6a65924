-- The actions of clients: as flat structs, and what the calls that hand them out and end them do.
use Rattle.std.specs.Prelude.{◌≡◌, ◌==◌, ◌⊎◌, ◌&&◌, ℕ, ℤ, List, [], codes, length, nat_le, Bool, true, false, MatchBool, Option, None, Some, Result, Ok, Err, MatchOption, MatchResult, if◌then◌else◌}
use Rattle.wl_wire.specs.MessageRows.{request_row}
use Rattle.wl_wire.specs.Table.{name_of}
use Rattle.wl_wire.specs.declared.argument.Argument.{Argument}
use Rattle.wl_wire.specs.declared.argument.Token.{Token}
use Rattle.wl_wire.specs.declared.error.IoFault.TheVariants as fault
use Rattle.wl_server_model.specs.Backend.{Calls}
use Rattle.wl_server_client.specs.Deeds.{Handed, handed}
use Rattle.wl_server_client.specs.Deeds as deeds
use Rattle.wl_server_client.specs.Ids.{ClientParts, IdParts}
use Rattle.wl_server_client.specs.Part.{display_of}
use Rattle.wl_server_model.specs.Plain.{ReturnsBindData, ReturnsRequestData}
use Rattle.std.specs.Result.{result_and}
use Rattle.wl_server_client.specs.declared.error.FinishRefused.{FinishRefused}
use Rattle.wl_server_client.specs.declared.error.ActionError.{ActionError}
use Rattle.wl_server_client.specs.declared.error.ActionError.TheVariants as action_error
use Rattle.wl_server_client.specs.declared.notes.DisconnectReason.TheVariants as reason
use Rattle.wl_server_client.specs.declared.reading.action.Action.{Action}
use Rattle.wl_server_model.specs.declared.step.Reply.TheVariants as reply
use Rattle.wl_server_model.specs.declared.step.Step.TheVariants as step
use Rattle.wl_flat.specs.Arguments.{all_bytes, descriptors_out, flat_arguments, queue_after_all}
use Rattle.wl_host.specs.Calls.{CoreState, bit_of, data_or_zero, global_data_or_zero, kept_by, version_or_zero, world}
use Rattle.wl_flat.specs.Flat.{count_number, flat_global, flat_resource, no_action, no_object, over_front}
use Rattle.wl_flat.specs.Kinds as kinds
use Rattle.wl_flat.specs.Nulls.{forbidden_null, is_refused, name_in, null_text, signature_of}
use Rattle.wl_host.specs.Seats.{ledger_of, listed, with_ledger}
use Rattle.wl_host.specs.Server.{ServerState}
use Rattle.wl_flat.specs.Status.{of_action}
use Rattle.wl_flat.specs.declared.flat.FlatAction.{FlatAction}
use Rattle.wl_flat.specs.declared.flat.FlatArgument.{FlatArgument}
use Rattle.wl_flat.specs.declared.flat.FlatObjectId.{FlatObjectId}
use Rattle.wl_host.specs.declared.server.ledger.Ledger.{Ledger}
use Rattle.wl_flat.specs.declared.status.Status.{Status}
use Rattle.wl_flat.specs.declared.status.Status.TheVariants as status

-- ---- flat

-- the arguments of a request; a bind has none
abbrev pub args_of : Handed → List (Argument IdParts Token)
args_of (deeds.Request sender opcode args is_destructor created) = args
args_of (deeds.Bind global object) = []
args_of (deeds.Registry object) = []

-- whether it ends the object that it was sent to
abbrev pub is_end : Handed → Bool
is_end (deeds.Request sender opcode args is_destructor created) = is_destructor
is_end (deeds.Bind global object) = false
is_end (deeds.Registry object) = false

-- the object that it made, if it made one
abbrev pub flat_created : Option IdParts → FlatObjectId
flat_created None = no_object
flat_created (Some id) = flat_resource id

abbrev pub version_created : CoreState → Option IdParts → ℕ
version_created core None = 0
version_created core (Some id) = version_or_zero core id

-- how much room it needs, and nothing else
abbrev pub flat_needs : Handed → FlatAction
flat_needs h = record no_action { arguments = count_number (length (args_of h)); bytes = count_number (length (all_bytes (args_of h))) }

-- with what the core knows of its objects, its signature and its global
abbrev pub flat_action : CoreState → Handed → FlatAction
flat_action core (deeds.Request sender opcode args is_destructor created) = record {
  kind = kinds.request;
  opcode = opcode;
  arguments = count_number (length args);
  is_destructor = bit_of is_destructor;
  sender = flat_resource sender;
  «data» = data_or_zero core sender;
  created = flat_created created;
  version = version_created core created;
  bytes = count_number (length (all_bytes args));
  global = no_action.global;
  forbidden_null = forbidden_null flat_resource (signature_of (request_row core.server.offer.table sender.interface opcode)) args;
}
flat_action core (deeds.Bind global object) = record {
  kind = kinds.bind;
  opcode = 0;
  arguments = 0;
  is_destructor = 0;
  sender = no_object;
  «data» = global_data_or_zero core global;
  created = flat_resource object;
  version = version_or_zero core object;
  bytes = 0;
  global = flat_global global;
  forbidden_null = 0;
}
flat_action core (deeds.Registry object) =
    record no_action { kind = kinds.registry; created = flat_resource object; version = version_or_zero core object }

-- ---- the next action of a client

-- a reading of a client that is stored, and that ended so, killed the client
abbrev pub kills : ActionError → Bool
kills (action_error.Io fault.WouldBlock) = false
kills (action_error.Io fault.OutOfMemory) = false
kills (action_error.Io _) = true
kills action_error.ActionOpen = false

-- the client may have been killed, and notes may have been made
abbrev pub marked : ServerState → ServerState
marked s = record s { may_clean_up = true; may_have_notes = true }

abbrev pub marked_if : Bool → ServerState → ServerState
marked_if true s = marked s
marked_if false s = s

-- the ledger, with this action kept
abbrev pub with_kept : Ledger → Option Action → Ledger
with_kept l kept = record l { kept = kept }

-- The action that was kept for the client. Or none was, and the core reads the next one.
abbrev pub ReadsNext : CoreState → ClientParts → Option Action → Result Action ActionError → CoreState → Type 0
ReadsNext before id (Some kept) read after = (read ≡ Ok kept) × (after ≡ before)
ReadsNext before id None read after = Calls world before (step.NextAction id) (reply.NextAction read) after

-- the place of the first argument that is null where the table allows no null, counted from 1; 0 if there is none
abbrev pub null_in : CoreState → Handed → ℕ
null_in core h = (flat_action core h).forbidden_null

-- what the client is told of that null
abbrev pub refusal_text : CoreState → Handed → List ℕ
refusal_text core (deeds.Request sender opcode args is_destructor created) =
    null_text (codes "request") (name_of core.server.offer.table sender.interface.0)
    (name_in (request_row core.server.offer.table sender.interface opcode))
    (null_in core (deeds.Request sender opcode args is_destructor created))
refusal_text core (deeds.Bind global object) = []
refusal_text core (deeds.Registry object) = []

-- The client is killed: the core is asked to post this error on its display, as `invalid_method`. Or there was no memory for the
-- text, and it is killed as if its connection had ended.
abbrev pub KillsFor : CoreState → ClientParts → List ℕ → CoreState → Type 0
KillsFor before id text after =
    Calls world before (step.PostError (display_of id) 1 text) reply.PostError after
    ⊎ Calls world before (step.KillClient id reason.ConnectionClosed) reply.KillClient after

-- A request that the core does not finish is kept.
abbrev pub kept_unless_finished : Result (Unit {0}) (FinishRefused (Option ℕ)) → Action → Option Action
kept_unless_finished (Ok _) action = None
kept_unless_finished (Err e) action = Some action

-- The request is refused: its client is killed, and the core is asked to finish it. If there is no memory for that, the request is
-- kept: it was not handed out, and the next reading refuses it again.
abbrev pub Refuses : CoreState → ClientParts → Action → Option Action → CoreState → Type 0
Refuses before id action left after =
    (mid : CoreState) × (answer : Result (Unit {0}) (FinishRefused (Option ℕ)))
    × KillsFor before id (refusal_text before (handed action)) mid
    × Calls world mid (step.FinishRequest id None) (reply.FinishRequest answer) after
    × (left ≡ kept_unless_finished answer action)

-- What was found is read, unless it has a null that the table forbids. Then it is refused, and the reading ends as after a request
-- that the core refuses.
abbrev pub ReadsIfAllowed : CoreState → ClientParts → Result Action ActionError → Result Action ActionError → Option Action → CoreState → Type 0
ReadsIfAllowed before id (Ok action) read left after =
    MatchBool (is_refused true (null_in before (handed action)))
    ((read ≡ Err (action_error.Io fault.Pipe)) × Refuses before id action left after)
    ((read ≡ Ok action) × (left ≡ None) × (after ≡ before))
ReadsIfAllowed before id (Err e) read left after = (read ≡ Err e) × (left ≡ None) × (after ≡ before)

-- The next action is read. If such nulls are refused, it is read if it has none. `left` is what is kept then.
abbrev pub ReadsAllowed : Bool → CoreState → ClientParts → Option Action → Result Action ActionError → Option Action → CoreState → Type 0
ReadsAllowed false before id kept read left after = ReadsNext before id kept read after × (left ≡ None)
ReadsAllowed true before id kept read left after =
    (found : Result Action ActionError) × (core : CoreState)
    × ReadsNext before id kept found core × ReadsIfAllowed core id found read left after

-- the lent memory has room for the arguments and for their bytes
abbrev pub fits : List (Argument IdParts Token) → List FlatArgument → List ℕ → Bool
fits args arguments bytes = nat_le (length args) (length arguments) && nat_le (length (all_bytes args)) (length bytes)

-- the lent memory after a call
pub record Lent : Type 0 where
  pub out : FlatAction
  pub arguments : List FlatArgument
  pub bytes : List ℕ

-- the action in lent memory, behind which the memory is as it was
abbrev pub lent_action : CoreState → Ledger → Handed → List FlatArgument → List ℕ → Lent
lent_action core l h arguments bytes = record {
  out = flat_action core h;
  arguments = over_front (flat_arguments flat_resource (data_or_zero core) l.received 0 (args_of h)) arguments;
  bytes = over_front (all_bytes (args_of h)) bytes;
}

-- the client's ledger after the action was handed out
abbrev pub handed_from : Ledger → Handed → Ledger
handed_from l h = record l { ends_sender = is_end h; received = queue_after_all l.received (args_of h) }

-- there is room for the action, and it is handed out
abbrev pub HandsWhole : CoreState → Ledger → Action → List FlatArgument → List ℕ → Status → Lent → Ledger → Type 0
HandsWhole core l action arguments bytes s lent after =
    (s ≡ status.Ok) × (lent ≡ lent_action core l (handed action) arguments bytes) × (after ≡ handed_from l (handed action))

-- there is no room: it is kept, and the host is told how much it needs
abbrev pub KeepsAction : Ledger → Action → List FlatArgument → List ℕ → Status → Lent → Ledger → Type 0
KeepsAction l action arguments bytes s lent after =
    (s ≡ status.TooSmall) × (lent ≡ record { out = flat_needs (handed action); arguments = arguments; bytes = bytes })
    × (after ≡ record l { kept = Some action })

abbrev pub HandsFrom : CoreState → Ledger → Action → List FlatArgument → List ℕ → Status → Lent → Ledger → Type 0
HandsFrom core l action arguments bytes s lent after =
    MatchBool (fits (args_of (handed action)) arguments bytes)
    (HandsWhole core l action arguments bytes s lent after) (KeepsAction l action arguments bytes s lent after)

-- nothing was handed out
abbrev pub HandsNothing : Status → List FlatArgument → List ℕ → Status → Lent → Type 0
HandsNothing e arguments bytes s lent = (s ≡ e) × (lent ≡ record { out = no_action; arguments = arguments; bytes = bytes })

-- the descriptors that come out with the action, if it is handed out
abbrev pub descriptors_with : Ledger → Action → List FlatArgument → List ℕ → List ℤ
descriptors_with l action arguments bytes =
    if fits (args_of (handed action)) arguments bytes then descriptors_out l.received (args_of (handed action)) else []

-- What was read is handed out with these descriptors, and the ledger is as that leaves it. Or nothing was read.
abbrev pub HandsOut : CoreState → Ledger → Result Action ActionError → List FlatArgument → List ℕ → Status → Lent → List ℤ → Ledger → Type 0
HandsOut core l read arguments bytes s lent out after =
    MatchResult read
    (λ action. HandsFrom core l action arguments bytes s lent after × (out ≡ descriptors_with l action arguments bytes))
    (λ e. HandsNothing (of_action e) arguments bytes s lent × (out ≡ []) × (after ≡ l))

abbrev pub is_killed_by : Result Action ActionError → Bool
is_killed_by (Ok action) = false
is_killed_by (Err e) = kills e

-- The next action of a client with this ledger is read, and handed out with these descriptors. The client is to be asked for
-- what is to be sent: the core may have answered a sync, or told it of globals.
abbrev pub NextActionOf : ServerState → ClientParts → List FlatArgument → List ℕ → Status → Lent → List ℤ → ServerState → Ledger → Type 0
NextActionOf before id arguments bytes s lent out after l =
    (read : Result Action ActionError) × (left : Option Action) × (core : CoreState) × (l' : Ledger)
    × ReadsAllowed before.refuses_nulls before.core id l.kept read left core
    × HandsOut core (with_kept l left) read arguments bytes s lent out l'
    × (after ≡ marked_if (is_killed_by read) (record before { core = core; seats = listed (with_ledger before.seats id l') id.slot }))

-- The client may not be stored. Then nothing is changed.
abbrev pub NextAction : ServerState → ClientParts → List FlatArgument → List ℕ → Status → Lent → List ℤ → ServerState → Type 0
NextAction before id arguments bytes s lent out after =
    MatchOption (ledger_of id before.seats.ledgers)
    (HandsNothing status.InvalidId arguments bytes s lent × (out ≡ []) × (after ≡ before))
    (NextActionOf before id arguments bytes s lent out after)

-- ---- the end of an action

-- if a request ended its sender, the client is told that the number is free, and there is a note of the end
abbrev pub ended : Bool → ClientParts → ServerState → ServerState
ended false id s = s
ended true id s = marked (record s { seats = listed s.seats id.slot })

-- The open action of the client was handed out, and the core is asked to end it. Else nothing is changed: the client is not
-- stored, or the action is kept for the next call.
abbrev pub EndsAction : ServerState → ClientParts → (Ledger → Result Bool Status → ServerState → Type 0) → Result Bool Status → ServerState → Type 0
EndsAction before id Ends result after =
    MatchOption (ledger_of id before.seats.ledgers) ((result ≡ Err status.InvalidId) × (after ≡ before))
    (λ l. MatchOption l.kept (Ends l result after) (λ kept. (result ≡ Err status.NotOpen) × (after ≡ before)))

-- The core is asked to end the request. The answer says whether the data are kept: the core gives them back if the object that
-- the request made is not there any more.
abbrev pub EndsRequestOf : ServerState → ClientParts → Option ℕ → Ledger → Result Bool Status → ServerState → Type 0
EndsRequestOf before id data_given l result after =
    (answer : Result (Option ℕ) (FinishRefused (Option ℕ))) × (core : CoreState)
    × Calls world before.core (step.FinishRequest id data_given) (reply.FinishRequest (result_and answer (Ok tt))) core
    × ReturnsRequestData before.core id data_given answer core
    × (result ≡ kept_by answer) × (after ≡ ended l.ends_sender id (record before { core = core }))

abbrev pub EndsRequest : ServerState → ClientParts → Option ℕ → Result Bool Status → ServerState → Type 0
EndsRequest before id data_given result after = EndsAction before id (EndsRequestOf before id data_given) result after

-- the core is asked to end the bind, and gives the data back if the object that was bound is not there any more
abbrev pub EndsBindOf : ServerState → ClientParts → ℕ → Ledger → Result Bool Status → ServerState → Type 0
EndsBindOf before id data_given l result after =
    (answer : Result (Option ℕ) (FinishRefused ℕ)) × (core : CoreState)
    × Calls world before.core (step.FinishBind id data_given) (reply.FinishBind (result_and answer (Ok tt))) core
    × ReturnsBindData before.core id data_given answer core
    × (result ≡ kept_by answer) × (after ≡ record before { core = core })

abbrev pub EndsBind : ServerState → ClientParts → ℕ → Result Bool Status → ServerState → Type 0
EndsBind before id data_given result after = EndsAction before id (EndsBindOf before id data_given) result after

-- the data 0, for the object that the action made, if it made one
abbrev pub zero_for : FlatObjectId → Option ℕ
zero_for created = if created.number == 0 then None else Some 0

-- the action is ended as what it is, a request or a bind or registry, with the data 0 for what it made
abbrev pub EndsAsAction : ServerState → ClientParts → FlatAction → Result Bool Status → ServerState → Type 0
EndsAsAction before id action result after =
    MatchBool (action.kind == kinds.request) (EndsRequest before id (zero_for action.created) result after) (EndsBind before id 0 result after)

-- the status of an answer that says whether data are kept
abbrev pub status_of_end : Result Bool Status → Status
status_of_end (Ok kept) = status.Ok
status_of_end (Err s) = s
