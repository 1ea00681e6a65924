-- What a command about one client makes of the others.
use Rattle.std.proofs.Common.{◌≡◌, ◌≢◌, ℕ, ◌+◌, ◌==◌, List, [], ◌∷◌, ◌++◌, length, map, get_or, append-nil, Bool, true, false, Option, None, Some, Ok, Err, Vec, Global, refl, sym, ap, subst, ◌∙◌, arith}
use Rattle.std.specs.Prelude.{MatchBool}
use Rattle.std.proofs.lemmas.Bool.{eq-eqb, true≢false}
use Rattle.wl_wire.specs.declared.argument.Token.{Token}
use Rattle.wl_wire.specs.declared.error.IoFault.{IoFault}
use Rattle.wl_link.specs.Exchange.{Queue}
use Rattle.wl_link.specs.Runs.{entries}
use Rattle.wl_link.specs.Script.{Script, parcel}
use Rattle.wl_server_client.specs.declared.notes.DisconnectReason.{DisconnectReason}
use Rattle.wl_server_client.specs.declared.notes.DisconnectReason.TheVariants as ended
use Rattle.wl_server_model.specs.declared.step.Reply.TheVariants as reply
use Rattle.wl_server_model.specs.declared.step.Step.TheVariants as step
use Rattle.wl_server_client.specs.Deeds.{Bind, Deed, Handed, Registry, Request, handed}
use Rattle.wl_server_client.specs.Globals.{Offer}
use Rattle.wl_server_client.specs.Ids.{ClientParts, same_client}
use Rattle.wl_server_model.specs.PartStep.{Asked, Call, PartCall, PartStep, Unfelt}
use Rattle.wl_server_model.specs.Runs.{Performs}
use Rattle.wl_server_model.specs.Server.{Seen, seen}
use Rattle.wl_server_model.specs.Steps.{Entry, OneStep}
use Rattle.wl_server_client.specs.declared.globals.handler.ShownToAll.{ShownToAll}
use Rattle.wl_bench.specs.declared.bench.Open.{Open}
use Rattle.wl_bench.specs.declared.bench.Open.TheVariants as opened
use Rattle.wl_bench.specs.declared.bench.Seat.{Seat}
use Rattle.wl_bench.specs.declared.command.ClientCommand.{ClientCommand}
use Rattle.wl_bench.specs.declared.command.ClientCommand.TheVariants.{Arrive, Read, Finish, Kill, Accept, FailIn, FailOut}
use Rattle.wl_bench.specs.Answers.{Line, action_text, answer_lines, answer_text, record_lines, records_lines, sent_lines, taken_out_lines}
use Rattle.wl_bench.specs.Apart.{SaysWhatWasSent, StaysWith}
use Rattle.wl_bench.specs.Bench.{BenchReply, BenchServer, BenchState, BenchStep, DoesFor, accept_step, bench_world, client_calls, finishing, printed, take_step}

-- ---- a step about a client

abbrev pub BenchSeen : Type 0
BenchSeen = Seen Script ℕ (Unit {0})

-- the step leaves each other client as it is
abbrev pub LeavesEach : ClientParts → BenchStep → Type 0
LeavesEach target s =
    (id : ClientParts) → same_client target id ≡ false → (offer : Offer ShownToAll) (answer : BenchReply) (before after : BenchSeen) (lacked : Bool)
    (did : List (Deed ℕ)) → PartStep bench_world id offer s answer before lacked did after → after ≡ before

-- what the program answers: one line, and not the lists of a cleanup or of notes
abbrev pub speaks : BenchReply → Bool
speaks (reply.Cleanup r) = false
speaks (reply.TakeNotes r) = false
speaks _ = true

abbrev pub AnswersPlainly : BenchStep → Type 0
AnswersPlainly s =
    (id : ClientParts) (offer : Offer ShownToAll) (answer : BenchReply) (before after : BenchSeen) (lacked : Bool) (did : List (Deed ℕ))
    → PartStep bench_world id offer s answer before lacked did after → speaks answer ≡ true

abbrev pub StaysIn : ClientParts → BenchStep → Type 0
StaysIn target s = LeavesEach target s × AnswersPlainly s

-- what is about this client is not felt where it is another
not_felt : (P : Type 0) (about : Bool) (before after : BenchSeen) (lacked : Bool) (did : List (Deed ℕ)) → about ≡ false
    → MatchBool about P (Unfelt before lacked did after) → after ≡ before
not_felt P true before after lacked did other h = absurd (true≢false other)
not_felt P false before after lacked did other h = h.2

arrive_stays : (target : ClientParts) (bytes : Vec ℕ Global) (tokens : Vec Token Global) → StaysIn target (step.Arrive target bytes tokens)
arrive_stays target bytes tokens = (
  λ id other offer answer before after lacked did h. not_felt _ (same_client target id) before after lacked did other h.2,
  λ id offer answer before after lacked did h. ap speaks h.1,
)

fault_in_stays : (target : ClientParts) (fault : IoFault) → StaysIn target (step.ArriveFault target fault)
fault_in_stays target fault = (
  λ id other offer answer before after lacked did h. not_felt _ (same_client target id) before after lacked did other h.2,
  λ id offer answer before after lacked did h. ap speaks h.1,
)

accept_stays : (target : ClientParts) (count : ℕ) → StaysIn target (step.Accept target count)
accept_stays target count = (
  λ id other offer answer before after lacked did h. not_felt _ (same_client target id) before after lacked did other h.2,
  λ id offer answer before after lacked did h. ap speaks h.1,
)

fault_out_stays : (target : ClientParts) (fault : IoFault) → StaysIn target (step.AcceptFault target fault)
fault_out_stays target fault = (
  λ id other offer answer before after lacked did h. not_felt _ (same_client target id) before after lacked did other h.2,
  λ id offer answer before after lacked did h. ap speaks h.1,
)

take_stays : (target : ClientParts) → StaysIn target (step.TakeSent target)
take_stays target = (
  λ id other offer answer before after lacked did h. not_felt _ (same_client target id) before after lacked did other h.2,
  λ id offer answer before after lacked did h. ap speaks h.1,
)

read_stays : (target : ClientParts) → StaysIn target (step.NextAction target)
read_stays target = (
  λ id other offer answer before after lacked did h. not_felt _ (same_client target id) before after lacked did other h.3,
  λ id offer answer before after lacked did h. ap speaks h.2,
)

kill_stays : (target : ClientParts) (reason : DisconnectReason) → StaysIn target (step.KillClient target reason)
kill_stays target reason = (
  λ id other offer answer before after lacked did h. not_felt _ (same_client target id) before after lacked did other h.1,
  λ id offer answer before after lacked did h. ap speaks h.0,
)

request_stays : (target : ClientParts) (given : Option ℕ) → StaysIn target (step.FinishRequest target given)
request_stays target given = (
  λ id other offer answer before after lacked did h. not_felt _ (same_client target id) before after lacked did other h.2,
  λ id offer answer before after lacked did h. ap speaks h.1,
)

bind_stays : (target : ClientParts) (given : ℕ) → StaysIn target (step.FinishBind target given)
bind_stays target given = (
  λ id other offer answer before after lacked did h. not_felt _ (same_client target id) before after lacked did other h.2,
  λ id offer answer before after lacked did h. ap speaks h.1,
)

-- ---- the calls of a command about a client

abbrev pub EachStays : ClientParts → List BenchStep → Type 0
EachStays target [] = Unit {0}
EachStays target (s ∷ steps) = StaysIn target s × EachStays target steps

finish_stays : (target : ClientParts) (action : Option Open) (n : ℕ) → StaysIn target (finishing target action n)
finish_stays target None n = request_stays target None
finish_stays target (Some (opened.Request true)) n = request_stays target (Some n)
finish_stays target (Some (opened.Request false)) n = request_stays target None
finish_stays target (Some opened.Bind) n = bind_stays target n

accepts_stay : (target : ClientParts) (counts : List ℕ) → EachStays target (map (accept_step target) counts)
accepts_stay target [] = tt
accepts_stay target (n ∷ counts) = (accept_stays target n, accepts_stay target counts)

pub calls_stay : (seat : Seat) (n : ℕ) (c : ClientCommand) → EachStays seat.client (client_calls seat n c)
calls_stay seat n (Arrive bytes tokens) = (arrive_stays seat.client bytes tokens, tt)
calls_stay seat n Read = (read_stays seat.client, tt)
calls_stay seat n Finish = (finish_stays seat.client seat.action n, tt)
calls_stay seat n Kill = (kill_stays seat.client ended.ConnectionClosed, tt)
calls_stay seat n (Accept counts) = accepts_stay seat.client counts.items
calls_stay seat n (FailIn fault) = (fault_in_stays seat.client fault, tt)
calls_stay seat n (FailOut fault) = (fault_out_stays seat.client fault, tt)

one_more_stays : (target : ClientParts) (steps : List BenchStep) (s : BenchStep) → EachStays target steps → StaysIn target s → EachStays target (steps ++ s ∷ [])
one_more_stays target [] s h stays = (stays, tt)
one_more_stays target (first ∷ steps) s h stays = (h.0, one_more_stays target steps s h.1 stays)

-- what one step does to a client
pub step_of : (id : ClientParts) (s : BenchStep) (answer : BenchReply) (before after : BenchServer) (entry : Entry Script ℕ ShownToAll (Unit {0}))
    → entry.call ≡ Asked s answer → OneStep bench_world before entry after
    → PartStep bench_world id before.offer s answer (seen id before) (entry.lacks id) (entry.did id) (seen id after)
step_of id s answer before after entry call one =
    subst (λ (c : Call Script ℕ ShownToAll (Unit {0})). PartCall bench_world id before.offer c (seen id before) (entry.lacks id) (entry.did id) (seen id after))
    call (one.each id)

kept : (target id : ClientParts) → same_client target id ≡ false → (steps : List BenchStep) (answers : List BenchReply) (before after : BenchServer)
    → EachStays target steps → Performs bench_world before (entries steps answers) after → seen id after ≡ seen id before
kept target id other [] answers before after h run = ap (seen id) run
kept target id other (s ∷ steps) [] before after h run = ap (seen id) run
kept target id other (s ∷ steps) (a ∷ answers) before after h (mid, (entry, call, refused, one), run) =
    kept target id other steps answers mid after h.1 run
    ∙ h.0.0 id other before.offer a (seen id before) (seen id mid) (entry.lacks id) (entry.did id) (step_of id s a before mid entry call one)

-- the reply to the last of the calls
pub last_speaks : (target : ClientParts) (calls others : List BenchStep) (earlier : List BenchReply) (answer : BenchReply) (taken : List BenchReply)
    (before after : BenchServer) → EachStays target calls → length calls ≡ length earlier + 1
    → Performs bench_world before (entries (calls ++ others) (earlier ++ answer ∷ taken)) after → speaks answer ≡ true
last_speaks target [] others earlier answer taken before after h count run = absurd (omega (arith, count))
last_speaks target (s ∷ calls) others [] answer taken before after h count (mid, (entry, call, refused, one), run) =
    h.0.1 target before.offer answer (seen target before) (seen target mid) (entry.lacks target) (entry.did target)
    (step_of target s answer before mid entry call one)
last_speaks target (s ∷ calls) others (a ∷ earlier) answer taken before after h count (mid, step, run) =
    last_speaks target calls others earlier answer taken mid after h.1 (omega (arith, count)) run

-- ---- what is printed

letter : (n : ℕ) → (n == 117) ≡ false → n ≢ 117
letter n other e = true≢false (sym (eq-eqb n 117 e) ∙ other)

plain_action : (action : Handed) → get_or (action_text action) 1 0 ≢ 117
plain_action (Request sender opcode args is_destructor created) e = letter 101 refl e
plain_action (Bind global object) e = letter 105 refl e
plain_action (Registry object) e = letter 101 refl e

-- one line, the second letter of which is no `u`
abbrev IsPlain : BenchReply → Type 0
IsPlain answer = (answer_lines answer ≡ answer_text answer ∷ []) × (taken_out_lines answer ≡ []) × (get_or (answer_text answer) 1 0 ≢ 117)

plain : (answer : BenchReply) → speaks answer ≡ true → IsPlain answer
plain (reply.InsertClient (Ok id)) h = (refl, refl, λ e. letter 108 refl e)
plain (reply.InsertClient (Err e)) h = (refl, refl, λ e. letter 101 refl e)
plain (reply.CreateGlobal (Ok id)) h = (refl, refl, λ e. letter 108 refl e)
plain (reply.CreateGlobal (Err e)) h = (refl, refl, λ e. letter 101 refl e)
plain (reply.NextAction (Ok action)) h = (refl, refl, plain_action (handed action))
plain (reply.NextAction (Err e)) h = (refl, refl, λ e. letter 97 refl e)
plain (reply.FinishRequest (Err refused)) h = (refl, refl, λ e. letter 101 refl e)
plain (reply.FinishBind (Err refused)) h = (refl, refl, λ e. letter 101 refl e)
plain (reply.Arrive (Err e)) h = (refl, refl, λ e. letter 101 refl e)
plain (reply.ArriveFault (Err e)) h = (refl, refl, λ e. letter 101 refl e)
plain (reply.Accept (Err e)) h = (refl, refl, λ e. letter 101 refl e)
plain (reply.AcceptFault (Err e)) h = (refl, refl, λ e. letter 101 refl e)
plain (reply.Cleanup r) h = absurd (true≢false (sym h))
plain (reply.TakeNotes r) h = absurd (true≢false (sym h))
plain _ h = (refl, refl, λ e. letter 107 refl e)

not_said : (line : Line) → get_or line 1 0 ≢ 117 → ¬ (SaysWhatWasSent line)
not_said line other says = other (ap (λ (l : Line). get_or l 1 0) says.1)

sends_told : (client : ClientParts) (answer : BenchReply) → (sends : List Queue) × (record_lines client answer ≡ sent_lines client.slot sends)
sends_told client (reply.TakeSent (Ok sends)) = (map parcel sends.items, refl)
sends_told client _ = ([], refl)

one_told : (client : ClientParts) (taken : List BenchReply) → length taken ≡ 1
    → (sends : List Queue) × (records_lines (client ∷ []) taken ≡ sent_lines client.slot sends)
one_told client [] count = absurd (omega (arith, count))
one_told client (t ∷ taken) count = let told = sends_told client t in (told.0, append-nil (record_lines client t) ∙ told.1)

pub stays_with : (before after : BenchState) (n slot : ℕ) (c : ClientCommand) (out : List Line) → DoesFor before n slot c out after → StaysWith slot before out after
stays_with before after n slot c out (seat, is, answer, taken, (earlier, count, one, run), printed_is, clients, globals) =
    let calls = client_calls seat n c in
    let each = calls_stay seat n c in
    let speaking = last_speaks seat.client calls (take_step seat.client ∷ []) earlier answer taken before.server after.server each count run in
    let line = plain answer speaking in
    let told = one_told seat.client taken one in
    let all : printed (seat.client ∷ []) answer taken ≡ answer_text answer ∷ sent_lines seat.client.slot told.0 =
    ap (λ (l : List Line). l ++ (taken_out_lines answer ++ records_lines (seat.client ∷ []) taken)) line.0
    ∙ ap (λ (l : List Line). answer_text answer ∷ (l ++ records_lines (seat.client ∷ []) taken)) line.1
    ∙ ap (λ (l : List Line). answer_text answer ∷ l) told.1 in (
      seat,
      is,
      (answer_text answer, told.0, not_said (answer_text answer) line.2, printed_is ∙ all),
      λ id other. kept seat.client id other (calls ++ take_step seat.client ∷ []) (earlier ++ answer ∷ taken) before.server after.server
          (one_more_stays seat.client calls (take_step seat.client) each (take_stays seat.client)) run,
    )
