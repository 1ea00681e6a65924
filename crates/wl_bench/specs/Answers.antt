-- The lines that commands print, each without its line feed.
use Rattle.std.specs.Prelude.{ℕ, List, [], ◌∷◌, ◌++◌, map, codes, Bool, true, false, Option, None, Some, Ok, Err}
use Rattle.std.specs.Fmt.{decimal, signed_decimal}
use Rattle.std.specs.List.{flat_map}
use Rattle.wl_wire.specs.declared.argument.Argument.{Argument}
use Rattle.wl_wire.specs.declared.argument.Argument.TheVariants as arg
use Rattle.wl_wire.specs.declared.argument.Token.{Token}
use Rattle.wl_wire.specs.declared.error.IoFault.TheVariants as fault
use Rattle.wl_wire.specs.declared.error.ProtocolError.{ProtocolError}
use Rattle.wl_link.specs.Exchange.{Queue}
use Rattle.wl_link.specs.Script.{Script, parcel}
use Rattle.wl_server_client.specs.declared.error.ActionError.{ActionError}
use Rattle.wl_server_client.specs.declared.error.ActionError.TheVariants.{Io, ActionOpen}
use Rattle.wl_server_client.specs.declared.error.FinishError.{FinishError}
use Rattle.wl_server_client.specs.declared.error.FinishError.TheVariants as finish
use Rattle.wl_server_client.specs.declared.error.GlobalError.{GlobalError}
use Rattle.wl_server_client.specs.declared.error.GlobalError.TheVariants as global
use Rattle.wl_server_client.specs.declared.error.InsertClientError.{InsertClientError}
use Rattle.wl_server_client.specs.declared.error.InsertClientError.TheVariants as insert
use Rattle.wl_server_client.specs.declared.error.ScriptError.{ScriptError}
use Rattle.wl_server_client.specs.declared.error.ScriptError.TheVariants as script
use Rattle.wl_server_client.specs.declared.notes.DisconnectReason.{DisconnectReason}
use Rattle.wl_server_client.specs.declared.notes.DisconnectReason.TheVariants as ended
use Rattle.wl_server_client.specs.declared.notes.Note.{Note}
use Rattle.wl_server_client.specs.declared.notes.Note.TheVariants as note
use Rattle.wl_server_model.specs.declared.step.Reply.{Reply}
use Rattle.wl_server_model.specs.declared.step.Reply.TheVariants as reply
use Rattle.wl_server_client.specs.Deeds.{Bind, Handed, Registry, Request, handed}
use Rattle.wl_server_client.specs.Ids.{ClientParts, GlobalParts, IdParts}
use Rattle.wl_bench.specs.Hex.{hex_digits}

-- ---- pieces

-- a line, or its text
abbrev pub Line : Type 0
Line = List ℕ

-- the bytes in lower-case hex
abbrev pub hex : List ℕ → Line
hex bytes = flat_map hex_digits bytes

-- a text after this character
abbrev pub after_byte : {X : Type 0} → ℕ → (X → Line) → X → Line
after_byte byte text x = byte ∷ text x

-- the texts with this character between
abbrev pub joined : {X : Type 0} → ℕ → (X → Line) → List X → Line
joined byte text [] = []
joined byte text (x ∷ rest) = text x ++ flat_map (after_byte byte text) rest

-- ---- actions

abbrev pub argument_text : Argument IdParts Token → Line
argument_text (arg.Int n) = codes "int:" ++ signed_decimal n
argument_text (arg.Uint n) = codes "uint:" ++ decimal n
argument_text (arg.Fixed n) = codes "fixed:" ++ signed_decimal n
argument_text (arg.Str None) = codes "str:null"
argument_text (arg.Str (Some bytes)) = codes "str:" ++ hex bytes
argument_text (arg.Object id) = codes "object:" ++ decimal id.number
argument_text (arg.NewId id) = codes "new:" ++ decimal id.number
argument_text (arg.Array bytes) = codes "array:" ++ hex bytes
argument_text (arg.Fd token) = codes "fd:" ++ signed_decimal token.0

-- with one space between
abbrev pub arguments_text : List (Argument IdParts Token) → Line
arguments_text args = joined 32 argument_text args

abbrev pub flag_text : Bool → Line
flag_text true = codes "1"
flag_text false = codes "0"

abbrev pub created_text : Option IdParts → Line
created_text None = codes "-"
created_text (Some id) = decimal id.number

-- what a request does to objects
abbrev pub effect_text : Bool → Option IdParts → Line
effect_text is_destructor created = codes " destructor=" ++ flag_text is_destructor ++ codes " created=" ++ created_text created

abbrev pub bind_text : GlobalParts → IdParts → Line
bind_text global object = codes "bind " ++ decimal global.name ++ codes " " ++ decimal object.number

-- no command of the bench has registries handed out
abbrev pub registry_text : IdParts → Line
registry_text object = codes "registry " ++ decimal object.number

abbrev pub action_text : Handed → Line
action_text (Request sender opcode args is_destructor created) =
    codes "request " ++ decimal sender.number ++ codes " " ++ decimal opcode ++ codes " [" ++ arguments_text args ++ codes "]"
    ++ effect_text is_destructor created
action_text (Bind global object) = bind_text global object
action_text (Registry object) = registry_text object

-- how a reading is answered if it hands out no action
abbrev pub name_of_fault : ActionError → Line
name_of_fault ActionOpen = codes "ActionOpen"
name_of_fault (Io fault.WouldBlock) = codes "WouldBlock"
name_of_fault (Io fault.Pipe) = codes "Pipe"
name_of_fault (Io fault.TooBig) = codes "TooBig"
name_of_fault (Io fault.Proto) = codes "Proto"
name_of_fault (Io fault.InvalidInput) = codes "InvalidInput"
name_of_fault (Io fault.OutOfMemory) = codes "OutOfMemory"
name_of_fault (Io (fault.Other _)) = codes "Other"

abbrev pub fault_text : ActionError → Line
fault_text e = codes "fault " ++ name_of_fault e

-- ---- refusals, by the name of the reason

abbrev pub refusal_text : Line → Line
refusal_text name = codes "refused " ++ name

abbrev pub insert_name : InsertClientError → Line
insert_name insert.Full = codes "Full"
insert_name insert.OutOfMemory = codes "OutOfMemory"

abbrev pub global_name : GlobalError → Line
global_name global.UnknownInterface = codes "UnknownInterface"
global_name global.VersionTooHigh = codes "VersionTooHigh"
global_name global.Full = codes "Full"
global_name global.OutOfMemory = codes "OutOfMemory"

abbrev pub script_name : ScriptError → Line
script_name script.InvalidId = codes "InvalidId"
script_name script.TooManyTokens = codes "TooManyTokens"
script_name script.OutOfMemory = codes "OutOfMemory"

abbrev pub finish_name : FinishError → Line
finish_name finish.InvalidId = codes "InvalidId"
finish_name finish.NoOpenAction = codes "NoOpenAction"
finish_name finish.WrongKind = codes "WrongKind"
finish_name finish.MissingObjectData = codes "MissingObjectData"
finish_name finish.UnexpectedData = codes "UnexpectedData"
finish_name finish.OutOfMemory = codes "OutOfMemory"

-- ---- notes

abbrev pub error_place : ℕ → ℕ → ℕ → Line
error_place slot code object = codes "disconnected " ++ decimal slot ++ codes " error " ++ decimal code ++ codes " " ++ decimal object

abbrev pub error_front : ℕ → ProtocolError → Line
error_front slot e = error_place slot e.code e.object_id ++ codes " " ++ e.object_interface ++ codes " "

abbrev pub error_text : ℕ → ProtocolError → Line
error_text slot e = error_front slot e ++ hex e.message

abbrev pub end_text : ℕ → DisconnectReason → Line
end_text slot ended.ConnectionClosed = codes "disconnected " ++ decimal slot ++ codes " closed"
end_text slot (ended.ProtocolError e) = error_text slot e

abbrev pub destroyed_text : ClientParts → IdParts → ℕ → Line
destroyed_text client object number =
    codes "destroyed " ++ decimal client.slot ++ codes " " ++ decimal object.number ++ codes " " ++ decimal number

abbrev pub note_text : Note ℕ → Line
note_text (note.Initialized client) = codes "initialized " ++ decimal client.slot
note_text (note.Disconnected client reason) = end_text client.slot reason
note_text (note.Destroyed client object number) = destroyed_text client object number

abbrev pub note_lines : List (Note ℕ) → List Line
note_lines [] = codes "none" ∷ []
note_lines (n ∷ notes) = map note_text (n ∷ notes)

-- ---- the answer of a command

abbrev pub client_text : ClientParts → Line
client_text id = codes "client " ++ decimal id.slot ++ codes " " ++ decimal id.serial

abbrev pub global_text : GlobalParts → Line
global_text id = codes "global " ++ decimal id.name ++ codes " " ++ decimal id.serial

-- how many requests a dispatch read
abbrev pub dispatched_text : ℕ → Line
dispatched_text count = codes "dispatched " ++ decimal count

-- the line of a reply
abbrev pub answer_text : Reply Script ℕ → Line
answer_text (reply.InsertClient (Ok id)) = client_text id
answer_text (reply.InsertClient (Err e)) = refusal_text (insert_name e)
answer_text (reply.CreateGlobal (Ok id)) = global_text id
answer_text (reply.CreateGlobal (Err e)) = refusal_text (global_name e)
answer_text (reply.NextAction (Ok action)) = action_text (handed action)
answer_text (reply.NextAction (Err e)) = fault_text e
answer_text (reply.FinishRequest (Err refused)) = refusal_text (finish_name refused.error)
answer_text (reply.FinishBind (Err refused)) = refusal_text (finish_name refused.error)
answer_text (reply.Arrive (Err e)) = refusal_text (script_name e)
answer_text (reply.ArriveFault (Err e)) = refusal_text (script_name e)
answer_text (reply.Accept (Err e)) = refusal_text (script_name e)
answer_text (reply.AcceptFault (Err e)) = refusal_text (script_name e)
answer_text _ = codes "ok"

-- the lines of a reply: the notes that were taken, or one
abbrev pub answer_lines : Reply Script ℕ → List Line
answer_lines (reply.TakeNotes (Ok notes)) = note_lines notes.items
answer_lines answer = answer_text answer ∷ []

-- ---- what clients were sent

abbrev pub token_text : Token → Line
token_text token = signed_decimal token.0

-- tokens with commas between, or `-` for none
abbrev pub tokens_text : List Token → Line
tokens_text [] = codes "-"
tokens_text (t ∷ tokens) = joined 44 token_text (t ∷ tokens)

abbrev pub bytes_of : Queue → List ℕ
bytes_of q = q.bytes

abbrev pub tokens_of : Queue → List Token
tokens_of q = q.tokens

-- what a client was sent, all sends joined
abbrev pub sent_text : ℕ → List Queue → Line
sent_text slot sends =
    codes "out " ++ decimal slot ++ codes " " ++ hex (flat_map bytes_of sends) ++ codes " " ++ tokens_text (flat_map tokens_of sends)

-- one line, if the client was sent something
abbrev pub sent_lines : ℕ → List Queue → List Line
sent_lines slot [] = []
sent_lines slot (q ∷ sends) = sent_text slot (q ∷ sends) ∷ []

-- of the clients that a cleanup took out, by the transports that it hands out
abbrev pub share_lines : ClientParts × Script → List Line
share_lines share = sent_lines share.0.slot share.1.sent

abbrev pub taken_out_lines : Reply Script ℕ → List Line
taken_out_lines (reply.Cleanup (Ok out)) = flat_map share_lines out.items
taken_out_lines _ = []

-- of a client, by the reply to the step that took the record of it
abbrev pub record_lines : ClientParts → Reply Script ℕ → List Line
record_lines client (reply.TakeSent (Ok sends)) = sent_lines client.slot (map parcel sends.items)
record_lines client _ = []

-- and of several
abbrev pub records_lines : List ClientParts → List (Reply Script ℕ) → List Line
records_lines [] replies = []
records_lines (c ∷ clients) [] = []
records_lines (c ∷ clients) (r ∷ replies) = record_lines c r ++ records_lines clients replies
