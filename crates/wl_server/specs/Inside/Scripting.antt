-- The calls of a transport by script, as the functions that make them say to each other.
use Rattle.std.specs.Prelude.{Result, Ok, Err}
use Rattle.wl_wire.specs.declared.error.OutOfMemory.{OutOfMemory}
use Rattle.wl_link.specs.declared.memory.ArriveError.{ArriveError}
use Rattle.wl_link.specs.declared.memory.ArriveError.TheVariants as arrive
use Rattle.wl_link.specs.Script.{Script}
use Rattle.wl_server_client.specs.declared.error.ScriptError.{ScriptError}
use Rattle.wl_server_client.specs.declared.error.ScriptError.TheVariants as refused
use Rattle.wl_server.specs.declared.runs.script.ScriptCall.{ScriptCall}
use Rattle.wl_server.specs.declared.runs.script.ScriptCall.TheVariants as call
use Rattle.wl_server_model.specs.declared.step.Reply.{Reply}
use Rattle.wl_server_model.specs.declared.step.Reply.TheVariants as reply
use Rattle.wl_server_model.specs.declared.step.Step.{Step}
use Rattle.wl_server_model.specs.declared.step.Step.TheVariants as step
use Rattle.wl_server_client.specs.Ids.{ClientParts}
use Rattle.wl_server_model.specs.Moves.{Accept, AcceptFault, Arrive, ArriveFault, Move, Moved, ScriptMoves}
use Rattle.wl_server_client.specs.Part.{Part}
use Rattle.wl_server_model.specs.PartStep.{WithTransport}

abbrev pub move_of : ScriptCall → Move
move_of (call.Arrive bytes tokens) = Arrive (record { bytes = bytes.items; tokens = tokens.items })
move_of (call.ArriveFault f) = ArriveFault f
move_of (call.Accept n) = Accept n
move_of (call.AcceptFault f) = AcceptFault f

abbrev pub step_of : {T U G C : Type 0} → ClientParts → ScriptCall → Step T U G C
step_of id (call.Arrive bytes tokens) = step.Arrive id bytes tokens
step_of id (call.ArriveFault f) = step.ArriveFault id f
step_of id (call.Accept n) = step.Accept id n
step_of id (call.AcceptFault f) = step.AcceptFault id f

abbrev pub reply_to : {T U : Type 0} → ScriptCall → Result (Unit {0}) ScriptError → Reply T U
reply_to (call.Arrive bytes tokens) answer = reply.Arrive answer
reply_to (call.ArriveFault f) answer = reply.ArriveFault answer
reply_to (call.Accept n) answer = reply.Accept answer
reply_to (call.AcceptFault f) answer = reply.AcceptFault answer

abbrev pub arrived_as : Result (Unit {0}) ArriveError → Result (Unit {0}) ScriptError
arrived_as (Ok _) = Ok tt
arrived_as (Err arrive.TooManyTokens) = Err refused.TooManyTokens
arrived_as (Err arrive.OutOfMemory) = Err refused.OutOfMemory

abbrev pub scripted_as : Result (Unit {0}) OutOfMemory → Result (Unit {0}) ScriptError
scripted_as (Ok _) = Ok tt
scripted_as (Err _) = Err refused.OutOfMemory

-- the client's script makes the move
abbrev pub Scripts : {U C : Type 0} → Part Script U C → Move → Moved → Part Script U C → Type 0
Scripts before m answer after = WithTransport (λ t t'. ScriptMoves t m answer t') before after
