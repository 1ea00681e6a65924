-- That two records of the same lines are the same.
use Rattle.std.proofs.Common.{◌≡◌, ◌∙◌, ℕ, ◌+◌, Bool, true, List, [], ◌∷◌, map, Err, Vec, Global, refl, sym, ap, subst, arith}
use Rattle.std.specs.Prelude.{◌⊎◌, ◌↔◌}
use Rattle.std.specs.String.{string_bytes}
use Rattle.wl_wire.specs.declared.argument.Token.{Token}
use Rattle.wl_link.specs.Script.{Script}
use Rattle.wl_server_client.specs.declared.error.GlobalError.TheVariants as global
use Rattle.wl_server_client.specs.declared.error.InsertClientError.TheVariants as insert
use Rattle.wl_server_client.specs.declared.globals.handler.ShownToAll.{ShownToAll}
use Rattle.wl_server_model.specs.declared.step.Reply.TheVariants as reply
use Rattle.wl_server_model.specs.declared.step.Step.TheVariants as step
use Rattle.wl_server_client.specs.Deeds.{Deed}
use Rattle.wl_server_client.specs.Globals.{Offer}
use Rattle.wl_server_client.specs.Ids.{ClientParts}
use Rattle.wl_server_model.specs.PartStep.{Asked, Call, MovedFor, PartStep}
use Rattle.wl_server_model.specs.Moves.{Arrive as ArriveMove, nothing_taken}
use Rattle.wl_server_model.specs.Server.{Seen, seen}
use Rattle.wl_server_model.specs.Steps.{Entry, NotesGoOn, OneStep, inserted_by, lacks_growth, offer_after}
use Rattle.wl_bench.specs.declared.bench.Seat.{Seat}
use Rattle.wl_bench.specs.declared.command.ClientCommand.{ClientCommand}
use Rattle.wl_bench.specs.declared.command.ClientCommand.TheVariants.{Arrive, Read, Finish, Kill, Accept, FailIn, FailOut}
use Rattle.wl_bench.specs.declared.command.Command.{Command}
use Rattle.wl_bench.specs.declared.command.Command.TheVariants.{Insert, Client, Dispatch, Create, Disable, Remove, Flush, Cleanup, Notes}
use Rattle.wl_bench.specs.Answers.{Line}
use Rattle.wl_bench.specs.Bench.{BenchReply, BenchServer, BenchState, BenchStep, Does, DoesDispatch, DoesFor, DoesForAll, Makes, accept_step, bench_world, client_calls}
use Rattle.wl_bench.specs.Commands.{AskSame, AskSameOfClient, IsLine}
use Rattle.wl_bench.specs.OneOutcome.{AreSettled, LookSame, OfSameLines}
use Rattle.wl_bench.specs.Record.{Leads, Recorded}
use Rattle.wl_bench.proofs.OneCommand.{one_of_line}
use Rattle.wl_bench.proofs.OneOutcome.{command_one, create_call}
use Rattle.wl_bench.proofs.Others.{step_of}

abbrev BenchCall : Type 0
BenchCall = Call Script ℕ ShownToAll (Unit {0})

abbrev BenchEntry : Type 0
BenchEntry = Entry Script ℕ ShownToAll (Unit {0})

-- ---- an arrival, wherever its bytes lie

-- whether memory was refused for what belongs to no client follows from the reply
growth_same : (s s' : BenchStep) (q : BenchReply) → lacks_growth {T = Script} {U = ℕ} {G = ShownToAll} {C = Unit {0}} (Asked s q) ≡ lacks_growth {T = Script} {U = ℕ} {G = ShownToAll} {C = Unit {0}} (Asked s' q)
growth_same s s' (reply.InsertClient (Err insert.OutOfMemory)) = refl
growth_same s s' (reply.CreateGlobal (Err global.OutOfMemory)) = refl
growth_same s s' (reply.Cleanup (Err e)) = refl
growth_same s s' (reply.TakeNotes (Err e)) = refl
growth_same s s' q = refl

module _ (target : ClientParts) (bytes bytes' : Vec ℕ Global) (tokens tokens' : Vec Token Global) (same_bytes : bytes.items ≡ bytes'.items) (same_tokens : tokens.items ≡ tokens'.items) where
  abbrev here : BenchStep
  here = step.Arrive target bytes tokens

  abbrev there : BenchStep
  there = step.Arrive target bytes' tokens'

  arrive_part : (id : ClientParts) (offer : Offer ShownToAll) (q : BenchReply) (before after : Seen Script ℕ (Unit {0})) (lacked : Bool) (did : List (Deed ℕ))
      → PartStep bench_world id offer there q before lacked did after → PartStep bench_world id offer here q before lacked did after
  arrive_part id offer q before after lacked did (r, is, h) = (
    r,
    is,
    subst (λ (b : List ℕ). MovedFor bench_world id offer target (ArriveMove (record { bytes = b; tokens = tokens.items })) (nothing_taken r) before lacked did after) (sym same_bytes)
        (subst (λ (t : List Token). MovedFor bench_world id offer target (ArriveMove (record { bytes = bytes'.items; tokens = t })) (nothing_taken r) before lacked did after)
        (sym same_tokens) h),
  )

  abbrev asked_here : BenchEntry → BenchReply → BenchEntry
  asked_here e q = record { call = Asked here q; refused = e.refused; lacks = e.lacks; did = e.did }

  arrive_step : (b mid : BenchServer) (e : BenchEntry) (q : BenchReply) → e.call ≡ Asked there q → OneStep bench_world b e mid → OneStep bench_world b (asked_here e q) mid
  arrive_step b mid e q call one = record {
    offer = one.offer ∙ ap (λ (c : BenchCall). offer_after b.offer c) call;
    last = one.last ∙ ap (λ (c : BenchCall). b.last_client + inserted_by c) call;
    client = tt;
    global = tt;
    order = tt;
    room = tt;
    refused =
        subst (λ (z : Bool). (e.refused ≡ true) ↔ ((z ≡ true) ⊎ ((id : ClientParts) × (e.lacks id ≡ true))))
        (ap (λ (c : BenchCall). lacks_growth c) call ∙ growth_same there here q) one.refused;
    notes = subst (λ (c : BenchCall). NotesGoOn b c mid) call one.notes;
    each = λ id. arrive_part id b.offer q (seen id b) (seen id mid) (e.lacks id) (e.did id) (step_of id there q b mid e call one);
  }

  arrive_makes : (b y : BenchServer) (heard : List ClientParts) (q : BenchReply) (qs : List BenchReply) → Makes b (there ∷ []) heard q qs y → Makes b (here ∷ []) heard q qs y
  arrive_makes b y heard q qs ([], count, told, (mid, (e, call, refused, one), run)) =
      ([], refl, told, (mid, (asked_here e q, refl, refused, arrive_step b mid e q call one), run))
  arrive_makes b y heard q qs (r ∷ earlier, count, told, run) = absurd (omega (arith, count))

-- ---- commands that ask for the same

calls_as : (seat : Seat) (n : ℕ) (c d : ClientCommand) (b y : BenchServer) (heard : List ClientParts) (q : BenchReply) (qs : List BenchReply) → AskSameOfClient c d
    → Makes b (client_calls seat n d) heard q qs y → Makes b (client_calls seat n c) heard q qs y
calls_as seat n (Arrive bytes tokens) (Arrive bytes' tokens') b y heard q qs same makes =
    arrive_makes seat.client bytes bytes' tokens tokens' same.0 same.1 b y heard q qs makes
calls_as seat n Read Read b y heard q qs same makes = makes
calls_as seat n Finish Finish b y heard q qs same makes = makes
calls_as seat n Kill Kill b y heard q qs same makes = makes
calls_as seat n (Accept counts) (Accept counts') b y heard q qs same makes =
    subst (λ (l : List ℕ). Makes b (map (accept_step seat.client) l) heard q qs y) (sym same) makes
calls_as seat n (FailIn fault) (FailIn fault') b y heard q qs same makes = subst (λ f. Makes b (step.ArriveFault seat.client f ∷ []) heard q qs y) (sym same) makes
calls_as seat n (FailOut fault) (FailOut fault') b y heard q qs same makes = subst (λ f. Makes b (step.AcceptFault seat.client f ∷ []) heard q qs y) (sym same) makes
calls_as seat n c d b y heard q qs same makes = absurd same

client_as : (b y : BenchState) (n slot : ℕ) (c d : ClientCommand) (out : List Line) → AskSameOfClient c d → DoesFor b n slot d out y → DoesFor b n slot c out y
client_as b y n slot c d out same (seat, is, q, qs, makes, printed_is, clients, globals) =
    (seat, is, q, qs, calls_as seat n c d b.server y.server (seat.client ∷ []) q qs same makes, printed_is, clients, globals)

does_as : (b y : BenchState) (n : ℕ) (c d : Command) (out : List Line) → AskSame c d → Does b n d out y → Does b n c out y
does_as b y n Insert Insert out same does = does
does_as b y n (Client slot c) (Client slot' d) out same does =
    client_as b y n slot c d out same.1 (subst (λ (k : ℕ). DoesFor b n k d out y) (sym same.0) does)
does_as b y n (Dispatch slots) (Dispatch slots') out same does = subst (λ (l : List ℕ). DoesDispatch b n l out y) (sym same) does
does_as b y n (Create name version) (Create name' version') out same (call, is, q, qs, makes, printed_is, clients, globals) = (
  call,
  ap (λ (w : List ℕ). create_call w version b.server.offer) same.0 ∙ (ap (λ (v : ℕ). create_call (string_bytes name') v b.server.offer) same.1 ∙ is),
  q,
  qs,
  makes,
  printed_is,
  clients,
  globals,
)
does_as b y n (Disable name) (Disable name') out same does = subst (λ (k : ℕ). DoesForAll b (Disable k) out y) (sym same) does
does_as b y n (Remove name) (Remove name') out same does = subst (λ (k : ℕ). DoesForAll b (Remove k) out y) (sym same) does
does_as b y n Flush Flush out same does = does
does_as b y n Cleanup Cleanup out same does = does
does_as b y n Notes Notes out same does = does
does_as b y n c d out same does = absurd same

-- ---- records

recorded_same : (t u : Recorded) → t.number ≡ u.number → t.line ≡ u.line → t.answer ≡ u.answer → t ≡ u
recorded_same t u number line answer =
    ap (λ (n : ℕ). let r : Recorded = record { number = n; line = t.line; answer = t.answer } in r) number
    ∙ (ap (λ (l : Line). let r : Recorded = record { number = u.number; line = l; answer = t.answer } in r) line
    ∙ ap (λ (a : List Line). let r : Recorded = record { number = u.number; line = u.line; answer = a } in r) answer)

pub records_one : (ordered : Bool) (a b x y : BenchState) (all all' : List Recorded) → LookSame ordered a b → AreSettled ordered all → OfSameLines all all'
    → Leads a all x → Leads b all' y → (all ≡ all') × LookSame ordered x y
records_one ordered a b x y [] [] look settled same leads leads' =
    (refl, subst (λ (z : BenchState). LookSame ordered z y) (sym leads) (subst (λ (z : BenchState). LookSame ordered a z) (sym leads') look))
records_one ordered a b x y [] (u ∷ all') look settled same leads leads' = absurd same
records_one ordered a b x y (t ∷ all) [] look settled same leads leads' = absurd same
records_one ordered a b x y (t ∷ all) (u ∷ all') look settled same (c, line, mid, does, leads) (d, line', mid', does', leads') =
    let ask = one_of_line t.line c d line (subst (λ (l : Line). IsLine d l) (sym same.1) line') in
    let other : Does b t.number c u.answer mid' = subst (λ (m : ℕ). Does b m c u.answer mid') (sym same.0) (does_as b mid' u.number c d u.answer ask does') in
    let one = command_one ordered a b mid mid' t.number c t.answer u.answer look does other in
    let rest = records_one ordered mid mid' x y all all' one.1 settled.1 same.2 leads leads' in
    let first = recorded_same t u same.0 same.1 (one.0.0 (settled.0 c line)) in
    (ap (λ (r : Recorded). r ∷ all) first ∙ ap (λ (l : List Recorded). u ∷ l) rest.0, rest.1)

-- where the order of notes counts, each line has one answer
pub all_settled : (all : List Recorded) → AreSettled true all
all_settled [] = tt
all_settled (t ∷ all) = (λ c line is. refl, all_settled all)
