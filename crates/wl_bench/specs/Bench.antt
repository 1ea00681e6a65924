-- What a bench holds, and what a command does: the steps of the server that it is, or a dispatch, and what it prints.
use Rattle.std.specs.Prelude.{⊤, ◌≡◌, ℕ, zero, suc, ◌+◌, List, [], ◌∷◌, ◌++◌, length, map, option_map, if◌then◌else◌, Option, None, Some, is_some, true, false, Ok, slice_get}
use Rattle.std.specs.List.{Contains, flat_map}
use Rattle.std.specs.Option.{option_map_or, option_to_list}
use Rattle.std.specs.Str.{bytes_eq}
use Rattle.std.specs.String.{string_bytes}
use Rattle.wl_wire.specs.Table.{InterfaceRow}
use Rattle.wl_wire.specs.declared.argument.Argument.{Argument}
use Rattle.wl_wire.specs.declared.argument.Token.{Token}
use Rattle.wl_wire.specs.declared.interface.InterfaceId.{InterfaceId}
use Rattle.wl_link.specs.Runs.{entries}
use Rattle.wl_link.specs.Script.{Script, ScriptReceives, ScriptSends}
use Rattle.wl_server_client.specs.declared.globals.handler.ShownToAll.{ShownToAll}
use Rattle.wl_server_client.specs.declared.notes.DisconnectReason.TheVariants as ended
use Rattle.wl_server_model.specs.declared.step.Reply.{Reply}
use Rattle.wl_server_model.specs.declared.step.Reply.TheVariants as reply
use Rattle.wl_server_model.specs.declared.step.Step.{Step}
use Rattle.wl_server_model.specs.declared.step.Step.TheVariants as step
use Rattle.wl_server_model.specs.Backend.{BackendState}
use Rattle.wl_server_client.specs.Deeds.{Bind, Handed, Registry, Request, handed}
use Rattle.wl_server_model.specs.Dispatch.{Answering, DispatchesAll, answering}
use Rattle.wl_server_client.specs.Ids.{ClientParts, GlobalParts, IdParts}
use Rattle.wl_server_model.specs.PartStep.{World, over, over_scripts}
use Rattle.wl_server_model.specs.Runs.{Performs}
use Rattle.wl_server_model.specs.Server.{ServerState, new_server}
use Rattle.wl_bench.specs.declared.bench.Open.{Open}
use Rattle.wl_bench.specs.declared.bench.Open.TheVariants as opened
use Rattle.wl_bench.specs.declared.bench.Seat.{Seat}
use Rattle.wl_bench.specs.declared.bench.dispatch.LineHandler.{LineHandler}
use Rattle.wl_bench.specs.declared.command.ClientCommand.{ClientCommand}
use Rattle.wl_bench.specs.declared.command.ClientCommand.TheVariants.{Arrive, Read, Finish, Kill, Accept, FailIn, FailOut}
use Rattle.wl_bench.specs.declared.command.Command.{Command}
use Rattle.wl_bench.specs.declared.command.Command.TheVariants.{Insert, Client, Dispatch, Create, Disable, Remove, Flush, Cleanup, Notes}
use Rattle.wl_bench.specs.Answers.{Line, answer_lines, dispatched_text, records_lines, taken_out_lines}

-- ---- what was made last under each number

module _ {X : Type 0} where
  -- what was made last under a number, if anything was
  abbrev pub latest : ℕ → List (Option X) → Option X
  latest n places = option_map_or (λ x. x) (slice_get places n) None

  -- this is what was made last under a number from now on
  abbrev pub with_latest : ℕ → X → List (Option X) → List (Option X)
  with_latest zero x [] = Some x ∷ []
  with_latest zero x (p ∷ places) = Some x ∷ places
  with_latest (suc n) x [] = None ∷ with_latest n x []
  with_latest (suc n) x (p ∷ places) = p ∷ with_latest n x places

  -- all of them, by number
  abbrev pub all_latest : List (Option X) → List X
  all_latest places = flat_map option_to_list places

-- ---- what a bench holds

abbrev pub BenchServer : Type 0
BenchServer = ServerState Script ℕ ShownToAll (Unit {0})

abbrev pub BenchStep : Type 0
BenchStep = Step Script ℕ ShownToAll (Unit {0})

abbrev pub BenchReply : Type 0
BenchReply = Reply Script ℕ

-- a server over scripts, each of whose globals all clients may see
abbrev pub bench_world : World Script ShownToAll (Unit {0})
bench_world = over_scripts (λ _ _ _ _. true)

-- the server; the client that was inserted last at each slot, with the action that its last reading handed out and that is
-- not finished yet; and the global that was created last under each name
pub record BenchState : Type 0 where
  pub server : BenchServer
  pub clients : List (Option Seat)
  pub globals : List (Option GlobalParts)

-- nothing has happened
abbrev pub new_bench : List InterfaceRow → BenchState
new_bench table = record { server = new_server table; clients = []; globals = [] }

abbrev pub client_of : Seat → ClientParts
client_of seat = seat.client

-- ---- which steps a command is

-- the place of the first interface of this name, or the one after the last if none has it
abbrev pub place_of : List ℕ → List InterfaceRow → ℕ
place_of name [] = 0
place_of name (row ∷ rows) = if bytes_eq row.name name then 0 else suc (place_of name rows)

-- the id of that place
abbrev pub interface_of : List ℕ → List InterfaceRow → InterfaceId
interface_of name rows = record { 0 = place_of name rows }

-- the global that was created last under the name, or an id that names none
abbrev pub global_of : BenchState → ℕ → GlobalParts
global_of b name = option_map_or (λ g. g) (latest name b.globals) (record { name = name; serial = 0 })

-- a command that is one step of the server, and about no one client
abbrev pub IsShared : Command → Type 0
IsShared (Client slot command) = ⊥
IsShared (Dispatch slots) = ⊥
IsShared command = ⊤

-- a command about a client that is one call
abbrev pub IsOneCall : ClientCommand → Type 0
IsOneCall (Accept counts) = ⊥
IsOneCall command = ⊤

-- the end of the open action: an object that it made gets the number of the command as its data
abbrev pub finishing : ClientParts → Option Open → ℕ → BenchStep
finishing client None n = step.FinishRequest client None
finishing client (Some (opened.Request true)) n = step.FinishRequest client (Some n)
finishing client (Some (opened.Request false)) n = step.FinishRequest client None
finishing client (Some opened.Bind) n = step.FinishBind client n

abbrev pub finish_step : Seat → ℕ → BenchStep
finish_step seat n = finishing seat.client seat.action n

abbrev pub accept_step : ClientParts → ℕ → BenchStep
accept_step client count = step.Accept client count

-- the calls of a command about a client: one; for `accept` one for each count
abbrev pub client_calls : Seat → ℕ → ClientCommand → List BenchStep
client_calls seat n (Arrive bytes tokens) = step.Arrive seat.client bytes tokens ∷ []
client_calls seat n Read = step.NextAction seat.client ∷ []
client_calls seat n Finish = finish_step seat n ∷ []
client_calls seat n Kill = step.KillClient seat.client ended.ConnectionClosed ∷ []
client_calls seat n (Accept counts) = map (accept_step seat.client) counts.items
client_calls seat n (FailIn fault) = step.ArriveFault seat.client fault ∷ []
client_calls seat n (FailOut fault) = step.AcceptFault seat.client fault ∷ []

-- a new transport
abbrev pub empty_script : Script
empty_script = record { arrivals = []; answers = []; sent = [] }

-- the call of such a command
abbrev pub shared_call : BenchState → Command → Option BenchStep
shared_call b Insert = Some (step.InsertClient empty_script tt)
shared_call b (Client slot command) = None
shared_call b (Dispatch slots) = None
shared_call b (Create name version) = Some (step.CreateGlobal (interface_of (string_bytes name) b.server.offer.table) version (record {}))
shared_call b (Disable name) = Some (step.DisableGlobal (global_of b name))
shared_call b (Remove name) = Some (step.RemoveGlobal (global_of b name))
shared_call b Flush = Some (step.Flush None)
shared_call b Cleanup = Some step.Cleanup
shared_call b Notes = Some step.TakeNotes

-- the clients of all slots
abbrev pub all_clients : BenchState → List ClientParts
all_clients b = map client_of (all_latest b.clients)

-- The clients to which such a command may have sent something, by slot; their records are taken after it. A cleanup sends
-- only to clients that it takes out, and hands out their transports.
abbrev pub heard_by : BenchState → Command → List ClientParts
heard_by b (Create name version) = all_clients b
heard_by b (Disable name) = all_clients b
heard_by b (Remove name) = all_clients b
heard_by b Flush = all_clients b
heard_by b command = []

abbrev pub take_step : ClientParts → BenchStep
take_step client = step.TakeSent client

-- ---- what the reply to a command leaves

abbrev pub opened_by : Handed → Open
opened_by (Request sender opcode args is_destructor created) = opened.Request (is_some created)
opened_by (Bind global object) = opened.Bind
opened_by (Registry object) = opened.Bind

abbrev pub seat_told : Seat → BenchReply → Seat
seat_told seat (reply.NextAction (Ok action)) = record seat { action = Some (opened_by (handed action)) }
seat_told seat (reply.FinishRequest (Ok _)) = record seat { action = None }
seat_told seat (reply.FinishBind (Ok _)) = record seat { action = None }
seat_told seat _ = seat

abbrev pub new_seat : ClientParts → Seat
new_seat client = record { client = client; action = None }

abbrev pub clients_after : BenchReply → List (Option Seat) → List (Option Seat)
clients_after (reply.InsertClient (Ok client)) clients = with_latest client.slot (new_seat client) clients
clients_after _ clients = clients

abbrev pub globals_after : BenchReply → List (Option GlobalParts) → List (Option GlobalParts)
globals_after (reply.CreateGlobal (Ok global)) globals = with_latest global.name global globals
globals_after _ globals = globals

-- ---- dispatches

abbrev pub BenchBackend : Type 0
BenchBackend = BackendState Script ℕ ShownToAll (Unit {0})

-- The handler of a dispatch gives each object that is made or bound the number of the command as its data. It makes no call.
abbrev pub answers_request : LineHandler → BenchBackend → ClientParts → IdParts → ℕ → List (Argument IdParts Token) → Option IdParts → Option ℕ
    → LineHandler → BenchBackend → Type 0
answers_request h before client sender opcode args created u h' after = (u ≡ option_map (λ _. h.number) created) × (h' ≡ h) × (after ≡ before)

abbrev pub answers_bind : LineHandler → BenchBackend → ClientParts → GlobalParts → IdParts → ℕ → LineHandler → BenchBackend → Type 0
answers_bind h before client global object u h' after = (u ≡ h.number) × (h' ≡ h) × (after ≡ before)

abbrev pub line_answers : Answering LineHandler Script ℕ ShownToAll (Unit {0})
line_answers = answering answers_request answers_bind

abbrev pub line_handler : ℕ → LineHandler
line_handler n = record { number = n }

-- These clients are dispatched by the command of that number, and so many requests are read. Memory was not refused. The
-- program changes no script in a dispatch.
abbrev pub Dispatches : BenchServer → ℕ → List ClientParts → ℕ → BenchServer → Type 0
Dispatches before n clients count after =
    (h : LineHandler)
    × DispatchesAll (over ScriptSends ScriptReceives (λ _ _ _ _. true)) line_answers clients (line_handler n) before (Ok count) h
    (record { server = after; refused = false })

-- the client that was inserted last at a slot, if one was
abbrev pub client_at : BenchState → ℕ → Option ClientParts
client_at b slot = option_map client_of (latest slot b.clients)

-- at one of the slots no client was inserted
abbrev pub LacksClient : BenchState → List ℕ → Type 0
LacksClient b slots = (slot : ℕ) × Contains slots slot × (latest slot b.clients ≡ None)

-- ---- what a command does

-- The calls are made, and then the records of what these clients were sent are taken. `answer` is the reply to the last
-- call, and `taken` are the replies to the steps after it.
abbrev pub Makes : BenchServer → List BenchStep → List ClientParts → BenchReply → List BenchReply → BenchServer → Type 0
Makes before calls heard answer taken after =
    (earlier : List BenchReply) × (length calls ≡ length earlier + 1) × (length taken ≡ length heard)
    × Performs bench_world before (entries (calls ++ map take_step heard) (earlier ++ answer ∷ taken)) after

-- the replies are that to the last call, and then those to the steps after it
abbrev pub Replies : BenchServer → List BenchStep → List ClientParts → List BenchReply → BenchServer → Type 0
Replies before calls heard replies after =
    (answer : BenchReply) × (taken : List BenchReply) × (replies ≡ answer ∷ taken) × Makes before calls heard answer taken after

-- what it prints: its answer, and a line for each client that was sent something
abbrev pub printed : List ClientParts → BenchReply → List BenchReply → List Line
printed heard answer taken = answer_lines answer ++ (taken_out_lines answer ++ records_lines heard taken)

-- a command about the client that was inserted last at the slot
abbrev pub DoesFor : BenchState → ℕ → ℕ → ClientCommand → List Line → BenchState → Type 0
DoesFor before n slot command out after =
    (seat : Seat) × (latest slot before.clients ≡ Some seat)
    × (answer : BenchReply) × (taken : List BenchReply)
    × Makes before.server (client_calls seat n command) (seat.client ∷ []) answer taken after.server
    × (out ≡ printed (seat.client ∷ []) answer taken)
    × (after.clients ≡ with_latest slot (seat_told seat answer) before.clients) × (after.globals ≡ before.globals)

-- a command about no one client
abbrev pub DoesForAll : BenchState → Command → List Line → BenchState → Type 0
DoesForAll before command out after =
    (call : BenchStep) × (shared_call before command ≡ Some call)
    × (answer : BenchReply) × (taken : List BenchReply)
    × Makes before.server (call ∷ []) (heard_by before command) answer taken after.server
    × (out ≡ printed (heard_by before command) answer taken)
    × (after.clients ≡ clients_after answer before.clients) × (after.globals ≡ globals_after answer before.globals)

-- the records of what these clients were sent are taken, with these replies
abbrev pub TakesRecords : BenchServer → List ClientParts → List BenchReply → BenchServer → Type 0
TakesRecords before heard taken after =
    (length taken ≡ length heard) × Performs bench_world before (entries (map take_step heard) taken) after

-- A dispatch of the clients that were inserted last at the slots. It prints how many requests were read, and a line for
-- each client that was sent something. It prints none for a client that it took out: the transport is gone, with what was
-- sent.
abbrev pub DoesDispatch : BenchState → ℕ → List ℕ → List Line → BenchState → Type 0
DoesDispatch before n slots out after =
    (clients : List ClientParts) × (map Some clients ≡ map (client_at before) slots)
    × (count : ℕ) × (mid : BenchServer) × Dispatches before.server n clients count mid
    × (taken : List BenchReply) × TakesRecords mid (all_clients before) taken after.server
    × (out ≡ dispatched_text count ∷ records_lines (all_clients before) taken)
    × (after.clients ≡ before.clients) × (after.globals ≡ before.globals)

-- a command under its number, the lines that it prints, and what is held before and after
abbrev pub Does : BenchState → ℕ → Command → List Line → BenchState → Type 0
Does before n (Client slot command) out after = DoesFor before n slot command out after
Does before n (Dispatch slots) out after = DoesDispatch before n slots.items out after
Does before n command out after = DoesForAll before command out after

-- the command names a slot at which no client was inserted
abbrev pub NamesNone : BenchState → Command → Type 0
NamesNone b (Client slot command) = latest slot b.clients ≡ None
NamesNone b (Dispatch slots) = LacksClient b slots.items
NamesNone b command = ⊥
