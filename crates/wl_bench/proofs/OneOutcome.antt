-- That a command has one outcome.
use Rattle.std.proofs.Common.{◌≡◌, ◌∙◌, ℕ, ◌+◌, ◌++◌, Bool, true, false, List, [], ◌∷◌, length, map, Option, None, Some, Result, Ok, Err, Vec, Global, refl, sym, ap, subst, append-nil, true≢false, arith}
use Rattle.std.specs.List.{flat_map}
use Rattle.std.specs.Option.{option_map_or}
use Rattle.std.specs.Prelude.{⊤, IsTrue, option_map}
use Rattle.std.specs.String.{string_bytes}
use Rattle.std.proofs.lemmas.List.{length-append, length-map}
use Rattle.std.proofs.lemmas.Option.{same_Some}
use Rattle.wl_link.specs.Runs.{AllSame, entries}
use Rattle.wl_link.specs.Script.{Script, ScriptReceives, ScriptSends}
use Rattle.wl_link.proofs.Calls.OneScript.{script_receives_function, script_sends_function}
use Rattle.wl_wire.specs.declared.error.IoFault.{IoFault}
use Rattle.wl_server_client.specs.declared.error.ActionError.{ActionError}
use Rattle.wl_server_client.specs.declared.globals.handler.ShownToAll.{ShownToAll}
use Rattle.wl_server_client.specs.declared.notes.Note.{Note}
use Rattle.wl_server_client.specs.declared.reading.action.Action.{Action}
use Rattle.wl_server_model.specs.declared.step.Reply.TheVariants as reply
use Rattle.wl_server_model.specs.declared.step.Step.TheVariants as step
use Rattle.wl_server_client.specs.Deeds.{Deed, Handed}
use Rattle.wl_server_model.specs.Outcome.Dispatches.{IsDeterministic, SameBackend}
use Rattle.wl_server_client.specs.Globals.{Offer}
use Rattle.wl_server_client.specs.Ids.{ClientParts, GlobalParts}
use Rattle.wl_server_model.specs.Moves.{Moved, taken}
use Rattle.wl_server_model.specs.PartStep.{Asked, Call, PartStep, over}
use Rattle.wl_server_client.specs.Reading.{action_content}
use Rattle.wl_server_model.specs.Runs.{Performs}
use Rattle.wl_server_model.specs.Server.{Seen, notes_of, seen}
use Rattle.wl_server_model.specs.Steps.{lacks_growth}
use Rattle.wl_server_model.specs.Outcome.Whole.{SameServer, WholeReply}
use Rattle.wl_server_model.proofs.OverRuns.Outcome.DispatchLaws.{dispatches_one}
use Rattle.wl_server_model.proofs.OverRuns.Outcome.MoveLaws.{scripts_determined, transport_determined}
use Rattle.wl_server_model.proofs.OverRuns.Outcome.WholeLaws.{ample_by}
use Rattle.wl_server_model.proofs.OverRuns.Outcome.WholeRuns.{performance_one}
use Rattle.wl_bench.specs.declared.bench.Seat.{Seat}
use Rattle.wl_bench.specs.declared.command.ClientCommand.{ClientCommand}
use Rattle.wl_bench.specs.declared.command.Command.{Command}
use Rattle.wl_bench.specs.declared.command.Command.TheVariants.{Insert, Client, Dispatch, Create, Disable, Remove, Flush, Cleanup, Notes}
use Rattle.wl_bench.specs.Answers.{Line, action_text, answer_lines, dispatched_text, fault_text, note_lines, record_lines, records_lines, sent_lines, share_lines, taken_out_lines}
use Rattle.wl_bench.specs.Bench.{BenchBackend, BenchReply, BenchServer, BenchState, BenchStep, Dispatches, Does, DoesDispatch, DoesFor, DoesForAll, Makes, all_clients, all_latest, bench_world, client_calls, client_of, clients_after, empty_script, global_of, globals_after, heard_by, interface_of, latest, line_answers, line_handler, opened_by, printed, seat_told, shared_call, take_step, with_latest}
use Rattle.wl_bench.specs.OneOutcome.{LookSame, PrintSame}
use Rattle.wl_bench.proofs.Others.{calls_stay, last_speaks, speaks, step_of}

abbrev BenchSeen : Type 0
BenchSeen = Seen Script ℕ (Unit {0})

-- some client
abbrev any : ClientParts
any = record { slot = 0; serial = 0 }

-- ---- two makings of the same calls

split_last : (ordered : Bool) (earlier earlier' : List BenchReply) (p q : BenchReply) (ps qs : List BenchReply) → length earlier ≡ length earlier'
    → AllSame (WholeReply ordered) (earlier ++ p ∷ ps) (earlier' ++ q ∷ qs) → WholeReply ordered p q × AllSame (WholeReply ordered) ps qs
split_last ordered [] [] p q ps qs count same = same
split_last ordered [] (e ∷ earlier') p q ps qs count same = absurd (omega (arith, count))
split_last ordered (e ∷ earlier) [] p q ps qs count same = absurd (omega (arith, count))
split_last ordered (e ∷ earlier) (f ∷ earlier') p q ps qs count same = split_last ordered earlier earlier' p q ps qs (omega (arith, count)) same.1

makes_one : (ordered : Bool) (s t x y : BenchServer) (calls : List BenchStep) (heard : List ClientParts) (p q : BenchReply) (ps qs : List BenchReply) → SameServer ordered s t
    → Makes s calls heard p ps x → Makes t calls heard q qs y → (WholeReply ordered p q × AllSame (WholeReply ordered) ps qs) × SameServer ordered x y
makes_one ordered s t x y calls heard p q ps qs same (earlier, count, told, run) (earlier', count', told', run') =
    let steps = length-append calls (map take_step heard) in
    let taking = length-map heard take_step in
    let replies : length (earlier ++ p ∷ ps) ≡ length earlier + (length ps + 1) = length-append earlier (p ∷ ps) ∙ omega arith in
    let replies' : length (earlier' ++ q ∷ qs) ≡ length earlier' + (length qs + 1) = length-append earlier' (q ∷ qs) ∙ omega arith in
    let one = performance_one bench_world (scripts_determined (λ _ _ _ _. true)) ordered s t x y (calls ++ map take_step heard) (earlier ++ p ∷ ps) (earlier' ++ q ∷ qs)
    (omega (arith, count, told, steps, taking, replies)) (omega (arith, count', told', steps, taking, replies')) same run run'
    in
    (split_last ordered earlier earlier' p q ps qs (omega (arith, count, count')) one.0, one.1)

-- ---- what is printed of replies that are the same

-- the reply tells no notes
abbrev pub tells : BenchReply → Bool
tells (reply.TakeNotes r) = false
tells _ = true

-- of a reading
abbrev content_lines : Result Handed ActionError → List Line
content_lines (Ok h) = action_text h ∷ []
content_lines (Err e) = fault_text e ∷ []

reading_same : (r r' : Result Action ActionError) → action_content r ≡ action_content r'
    → answer_lines (reply.NextAction r) ≡ answer_lines (reply.NextAction r')
reading_same (Ok a) (Ok a') same = ap content_lines same
reading_same (Ok a) (Err e) same = ap content_lines same
reading_same (Err e) (Ok a) same = ap content_lines same
reading_same (Err e) (Err e') same = ap content_lines same

answer_same : (ordered : Bool) (p q : BenchReply) → tells p ≡ true → WholeReply ordered p q → answer_lines p ≡ answer_lines q
answer_same ordered (reply.NextAction r) (reply.NextAction r') some same = reading_same r r' (same any)
answer_same ordered (reply.NextActionWithin r left) (reply.NextActionWithin r' left') some same = refl
answer_same ordered (reply.Cleanup (Ok out)) (reply.Cleanup (Ok out')) some same = refl
answer_same ordered (reply.TakeSent r) (reply.TakeSent r') some same = refl
answer_same ordered (reply.TakeNotes r) q some same = absurd (true≢false (sym some))
answer_same ordered p q some same = ap answer_lines (same any)

taken_out_same : (ordered : Bool) (p q : BenchReply) → WholeReply ordered p q → taken_out_lines p ≡ taken_out_lines q
taken_out_same ordered (reply.NextAction r) (reply.NextAction r') same = refl
taken_out_same ordered (reply.NextActionWithin r left) (reply.NextActionWithin r' left') same = refl
taken_out_same ordered (reply.Cleanup (Ok out)) (reply.Cleanup (Ok out')) same = ap (flat_map share_lines) same
taken_out_same ordered (reply.TakeSent r) (reply.TakeSent r') same = refl
taken_out_same ordered (reply.TakeNotes (Ok out)) (reply.TakeNotes (Ok out')) same = refl
taken_out_same ordered p q same = ap taken_out_lines (same any)

abbrev moved_lines : ClientParts → Moved → List Line
moved_lines c (Ok sends) = sent_lines c.slot sends
moved_lines c (Err e) = []

sends_same : (c : ClientParts) (r r' : _) → taken r ≡ taken r' → record_lines c (reply.TakeSent r) ≡ record_lines c (reply.TakeSent r')
sends_same c (Ok a) (Ok b) same = ap (moved_lines c) same
sends_same c (Ok a) (Err e) same = ap (moved_lines c) same
sends_same c (Err e) (Ok b) same = ap (moved_lines c) same
sends_same c (Err e) (Err e') same = refl

record_same : (ordered : Bool) (c : ClientParts) (p q : BenchReply) → WholeReply ordered p q → record_lines c p ≡ record_lines c q
record_same ordered c (reply.NextAction r) (reply.NextAction r') same = refl
record_same ordered c (reply.NextActionWithin r left) (reply.NextActionWithin r' left') same = refl
record_same ordered c (reply.Cleanup (Ok out)) (reply.Cleanup (Ok out')) same = refl
record_same ordered c (reply.TakeSent r) (reply.TakeSent r') same = sends_same c r r' (same any)
record_same ordered c (reply.TakeNotes (Ok out)) (reply.TakeNotes (Ok out')) same = refl
record_same ordered c p q same = ap (record_lines c) (same any)

records_same : (ordered : Bool) (heard : List ClientParts) (ps qs : List BenchReply) → AllSame (WholeReply ordered) ps qs → records_lines heard ps ≡ records_lines heard qs
records_same ordered [] ps qs same = refl
records_same ordered (c ∷ heard) [] [] same = refl
records_same ordered (c ∷ heard) [] (q ∷ qs) same = absurd same
records_same ordered (c ∷ heard) (p ∷ ps) [] same = absurd same
records_same ordered (c ∷ heard) (p ∷ ps) (q ∷ qs) same =
    ap (λ (l : List Line). l ++ records_lines heard ps) (record_same ordered c p q same.0)
    ∙ ap (λ (l : List Line). record_lines c q ++ l) (records_same ordered heard ps qs same.1)

printed_same : (ordered : Bool) (heard : List ClientParts) (p q : BenchReply) (ps qs : List BenchReply) → tells p ≡ true → WholeReply ordered p q → AllSame (WholeReply ordered) ps qs
    → printed heard p ps ≡ printed heard q qs
printed_same ordered heard p q ps qs some same each =
    ap (λ (l : List Line). l ++ (taken_out_lines p ++ records_lines heard ps)) (answer_same ordered p q some same)
    ∙ ap (λ (l : List Line). answer_lines q ++ (l ++ records_lines heard ps)) (taken_out_same ordered p q same)
    ∙ ap (λ (l : List Line). answer_lines q ++ (taken_out_lines q ++ l)) (records_same ordered heard ps qs each)

-- ---- what replies that are the same leave

abbrev content_seat : Seat → Result Handed ActionError → Seat
content_seat seat (Ok h) = record seat { action = Some (opened_by h) }
content_seat seat (Err e) = seat

read_seat : (seat : Seat) (r r' : Result Action ActionError) → action_content r ≡ action_content r'
    → seat_told seat (reply.NextAction r) ≡ seat_told seat (reply.NextAction r')
read_seat seat (Ok a) (Ok a') same = ap (content_seat seat) same
read_seat seat (Ok a) (Err e) same = ap (content_seat seat) same
read_seat seat (Err e) (Ok a) same = ap (content_seat seat) same
read_seat seat (Err e) (Err e') same = refl

seat_same : (ordered : Bool) (seat : Seat) (p q : BenchReply) → WholeReply ordered p q → seat_told seat p ≡ seat_told seat q
seat_same ordered seat (reply.NextAction r) (reply.NextAction r') same = read_seat seat r r' (same any)
seat_same ordered seat (reply.NextActionWithin r left) (reply.NextActionWithin r' left') same = refl
seat_same ordered seat (reply.Cleanup (Ok out)) (reply.Cleanup (Ok out')) same = refl
seat_same ordered seat (reply.TakeSent r) (reply.TakeSent r') same = refl
seat_same ordered seat (reply.TakeNotes (Ok out)) (reply.TakeNotes (Ok out')) same = refl
seat_same ordered seat p q same = ap (seat_told seat) (same any)

clients_same : (ordered : Bool) (l : List (Option Seat)) (p q : BenchReply) → WholeReply ordered p q → clients_after p l ≡ clients_after q l
clients_same ordered l (reply.NextAction r) (reply.NextAction r') same = refl
clients_same ordered l (reply.NextActionWithin r left) (reply.NextActionWithin r' left') same = refl
clients_same ordered l (reply.Cleanup (Ok out)) (reply.Cleanup (Ok out')) same = refl
clients_same ordered l (reply.TakeSent r) (reply.TakeSent r') same = refl
clients_same ordered l (reply.TakeNotes (Ok out)) (reply.TakeNotes (Ok out')) same = refl
clients_same ordered l p q same = ap (λ (z : BenchReply). clients_after z l) (same any)

globals_same : (ordered : Bool) (l : List (Option GlobalParts)) (p q : BenchReply) → WholeReply ordered p q → globals_after p l ≡ globals_after q l
globals_same ordered l (reply.NextAction r) (reply.NextAction r') same = refl
globals_same ordered l (reply.NextActionWithin r left) (reply.NextActionWithin r' left') same = refl
globals_same ordered l (reply.Cleanup (Ok out)) (reply.Cleanup (Ok out')) same = refl
globals_same ordered l (reply.TakeSent r) (reply.TakeSent r') same = refl
globals_same ordered l (reply.TakeNotes (Ok out)) (reply.TakeNotes (Ok out')) same = refl
globals_same ordered l p q same = ap (λ (z : BenchReply). globals_after z l) (same any)

-- ---- a command about a client

pub speaks_tells : (p : BenchReply) → speaks p ≡ true → tells p ≡ true
speaks_tells (reply.TakeNotes r) some = absurd (true≢false (sym some))
speaks_tells p some = refl

pub client_one : (ordered : Bool) (a b x y : BenchState) (n slot : ℕ) (c : ClientCommand) (out out' : List Line) → LookSame ordered a b
    → DoesFor a n slot c out x → DoesFor b n slot c out' y → (out ≡ out') × LookSame ordered x y
client_one ordered a b x y n slot c out out' look (seat, is, p, ps, makes, printed_is, clients, globals) (seat', is', q, qs, makes', printed_is', clients', globals') =
    let seats : seat ≡ seat' = same_Some seat seat' (sym is ∙ (ap (latest slot) look.clients ∙ is')) in
    let makes_there : Makes b.server (client_calls seat n c) (seat.client ∷ []) q qs y.server
    = subst (λ (z : Seat). Makes b.server (client_calls z n c) (z.client ∷ []) q qs y.server) (sym seats) makes'
    in
    let one = makes_one ordered a.server b.server x.server y.server (client_calls seat n c) (seat.client ∷ []) p q ps qs look.server makes makes_there in
    let speaking = last_speaks seat.client (client_calls seat n c) (take_step seat.client ∷ []) makes.0 p ps a.server x.server (calls_stay seat n c) makes.1 makes.3 in
    let lines = printed_same ordered (seat.client ∷ []) p q ps qs (speaks_tells p speaking) one.0.0 one.0.1 in (
      printed_is ∙ (lines ∙ (ap (λ (z : Seat). printed (z.client ∷ []) q qs) seats ∙ sym printed_is')),
      record {
        server = one.1;
        clients =
            clients
            ∙ (ap (λ (z : Seat). with_latest slot z a.clients) (seat_same ordered seat p q one.0.0 ∙ ap (λ (z : Seat). seat_told z q) seats)
            ∙ (ap (λ (l : List (Option Seat)). with_latest slot (seat_told seat' q) l) look.clients ∙ sym clients'));
        globals = globals ∙ (look.globals ∙ sym globals');
      },
    )

-- ---- a command about no one client

abbrev pub create_call : List ℕ → ℕ → Offer ShownToAll → Option BenchStep
create_call name version offer = Some (step.CreateGlobal (interface_of name offer.table) version (record {}))

abbrev named_global : ℕ → List (Option GlobalParts) → GlobalParts
named_global name l = option_map_or (λ g. g) (latest name l) (record { name = name; serial = 0 })

abbrev disable_call : ℕ → List (Option GlobalParts) → Option BenchStep
disable_call name l = Some (step.DisableGlobal (named_global name l))

abbrev remove_call : ℕ → List (Option GlobalParts) → Option BenchStep
remove_call name l = Some (step.RemoveGlobal (named_global name l))

-- the call is the same where the benches look the same
calls_same : (ordered : Bool) (a b : BenchState) → LookSame ordered a b → (command : Command) → shared_call a command ≡ shared_call b command
calls_same ordered a b look Insert = refl
calls_same ordered a b look (Client slot c) = refl
calls_same ordered a b look (Dispatch slots) = refl
calls_same ordered a b look (Create name version) = ap (create_call (string_bytes name) version) look.server.held.offer
calls_same ordered a b look (Disable name) = ap (disable_call name) look.globals
calls_same ordered a b look (Remove name) = ap (remove_call name) look.globals
calls_same ordered a b look Flush = refl
calls_same ordered a b look Cleanup = refl
calls_same ordered a b look Notes = refl

abbrev every_client : List (Option Seat) → List ClientParts
every_client l = map client_of (all_latest l)

heard_same : (ordered : Bool) (a b : BenchState) → LookSame ordered a b → (command : Command) → heard_by a command ≡ heard_by b command
heard_same ordered a b look (Create name version) = ap every_client look.clients
heard_same ordered a b look (Disable name) = ap every_client look.clients
heard_same ordered a b look (Remove name) = ap every_client look.clients
heard_same ordered a b look Flush = ap every_client look.clients
heard_same ordered a b look command = refl

-- the step was made with this reply, and memory was not refused
abbrev FirstIs : BenchServer → BenchStep → BenchReply → Type 0
FirstIs a s p =
    (z : BenchSeen) × (lacked : Bool) × (did : List (Deed ℕ)) × PartStep bench_world any a.offer s p (seen any a) lacked did z × (lacks_growth (Asked s p) ≡ false)

pub first_told : (s : BenchStep) (heard : List ClientParts) (p : BenchReply) (ps : List BenchReply) (a x : BenchServer) → Makes a (s ∷ []) heard p ps x → FirstIs a s p
first_told s heard p ps a x ([], count, told, (mid, (entry, call, refused, one), run)) = (
  seen any mid,
  entry.lacks any,
  entry.did any,
  step_of any s p a mid entry call one,
  subst (λ (c : Call Script ℕ ShownToAll (Unit {0})). lacks_growth c ≡ false) call (ample_by entry one.refused refused).0,
)
first_told s heard p ps a x (e ∷ earlier, count, told, run) = absurd (omega (arith, count))

-- a command that is one step, and takes no notes
abbrev pub IsQuiet : Command → Type 0
IsQuiet (Client slot command) = ⊥
IsQuiet (Dispatch slots) = ⊥
IsQuiet Notes = ⊥
IsQuiet command = ⊤

pub quiet_tells : (command : Command) → IsQuiet command → (b : BenchState) (a : BenchServer) (s : BenchStep) (p : BenchReply) → shared_call b command ≡ Some s → FirstIs a s p
    → tells p ≡ true
quiet_tells Insert is b a s p call first =
    let here : FirstIs a (step.InsertClient empty_script tt) p = subst (λ (k : BenchStep). FirstIs a k p) (sym (same_Some (step.InsertClient empty_script tt) s call)) first in
    ap tells here.3.1
quiet_tells (Client slot c) is b a s p call first = absurd is
quiet_tells (Dispatch slots) is b a s p call first = absurd is
quiet_tells (Create name version) is b a s p call first =
    let k : BenchStep = step.CreateGlobal (interface_of (string_bytes name) b.server.offer.table) version (record {}) in
    let here : FirstIs a (step.CreateGlobal (interface_of (string_bytes name) b.server.offer.table) version (record {})) p
    = subst (λ (k : BenchStep). FirstIs a k p) (sym (same_Some k s call)) first
    in
    ap tells here.3.1
quiet_tells (Disable name) is b a s p call first =
    let here : FirstIs a (step.DisableGlobal (global_of b name)) p
    = subst (λ (k : BenchStep). FirstIs a k p) (sym (same_Some (step.DisableGlobal (global_of b name)) s call)) first
    in
    ap tells here.3.0
quiet_tells (Remove name) is b a s p call first =
    let here : FirstIs a (step.RemoveGlobal (global_of b name)) p
    = subst (λ (k : BenchStep). FirstIs a k p) (sym (same_Some (step.RemoveGlobal (global_of b name)) s call)) first
    in
    ap tells here.3.0
quiet_tells Flush is b a s p call first =
    let here : FirstIs a (step.Flush None) p = subst (λ (k : BenchStep). FirstIs a k p) (sym (same_Some (step.Flush None) s call)) first in
    ap tells here.3.1
quiet_tells Cleanup is b a s p call first =
    let here : FirstIs a step.Cleanup p = subst (λ (k : BenchStep). FirstIs a k p) (sym (same_Some step.Cleanup s call)) first in
    ap tells here.3.1
quiet_tells Notes is b a s p call first = absurd is

-- the reply to `take_notes`, where memory is not refused
abbrev AreNotes : BenchReply → Type 0
AreNotes p = (out : Vec (Note ℕ) Global) × (p ≡ reply.TakeNotes (Ok out))

notes_told : (a : BenchServer) (p : BenchReply) → FirstIs a step.TakeNotes p → AreNotes p
notes_told a p (z, lacked, did, (Ok out, is, h), ample) = (out, is)
notes_told a p (z, lacked, did, (Err e, is, h), ample) =
    absurd (true≢false (subst (λ (k : BenchReply). lacks_growth {G = ShownToAll} {C = Unit {0}} (Asked step.TakeNotes k) ≡ false) is ample))

printed_notes : (p : BenchReply) (ps : List BenchReply) (out : Vec (Note ℕ) Global) → p ≡ reply.TakeNotes (Ok out) → printed [] p ps ≡ note_lines out.items
printed_notes p ps out is = ap (λ (z : BenchReply). printed [] z ps) is ∙ append-nil (note_lines out.items)

notes_same : (ordered : Bool) (p q : BenchReply) (out out' : Vec (Note ℕ) Global) → p ≡ reply.TakeNotes (Ok out) → q ≡ reply.TakeNotes (Ok out')
    → WholeReply ordered p q → ((client : ClientParts) → notes_of client out.items ≡ notes_of client out'.items) × (IsTrue ordered → out.items ≡ out'.items)
notes_same ordered p q out out' is is' same =
    let here : WholeReply ordered (reply.TakeNotes (Ok out)) q = subst (λ (z : BenchReply). WholeReply ordered z q) is same in
    let both : WholeReply {T = Script} {U = ℕ} ordered (reply.TakeNotes (Ok out)) (reply.TakeNotes (Ok out'))
    = subst (λ (z : BenchReply). WholeReply ordered (reply.TakeNotes (Ok out)) z) is' here
    in
    both

-- what two such commands made
record MadeSame (ordered : Bool) (a b : BenchState) (command : Command) (out out' : List Line) : Type 0 where
  s : BenchStep
  p : BenchReply
  q : BenchReply
  ps : List BenchReply
  qs : List BenchReply
  call : shared_call a command ≡ Some s
  first : FirstIs a.server s p
  first' : FirstIs b.server s q
  same : WholeReply ordered p q
  each : AllSame (WholeReply ordered) ps qs
  printed_is : out ≡ printed (heard_by a command) p ps
  printed_is' : out' ≡ printed (heard_by a command) q qs

made_same : (ordered : Bool) (a b x y : BenchState) (command : Command) (out out' : List Line) → LookSame ordered a b → DoesForAll a command out x → DoesForAll b command out' y
    → MadeSame ordered a b command out out' × LookSame ordered x y
made_same ordered a b x y command out out' look (s, call, p, ps, makes, printed_is, clients, globals) (s', call', q, qs, makes', printed_is', clients', globals') =
    let heard = heard_same ordered a b look command in
    let steps : s' ≡ s = sym (same_Some s s' (sym call ∙ (calls_same ordered a b look command ∙ call'))) in
    let there : Makes b.server (s ∷ []) (heard_by a command) q qs y.server
    = subst (λ (l : List ClientParts). Makes b.server (s ∷ []) l q qs y.server) (sym heard)
    (subst (λ (k : BenchStep). Makes b.server (k ∷ []) (heard_by b command) q qs y.server) steps makes')
    in
    let one = makes_one ordered a.server b.server x.server y.server (s ∷ []) (heard_by a command) p q ps qs look.server makes there in (
      record {
        s = s;
        p = p;
        q = q;
        ps = ps;
        qs = qs;
        call = call;
        first = first_told s (heard_by a command) p ps a.server x.server makes;
        first' = first_told s (heard_by a command) q qs b.server y.server there;
        same = one.0.0;
        each = one.0.1;
        printed_is = printed_is;
        printed_is' = printed_is' ∙ ap (λ (l : List ClientParts). printed l q qs) (sym heard);
      },
      record {
        server = one.1;
        clients = clients ∙ (clients_same ordered a.clients p q one.0.0 ∙ (ap (λ (l : List (Option Seat)). clients_after q l) look.clients ∙ sym clients'));
        globals = globals ∙ (globals_same ordered a.globals p q one.0.0 ∙ (ap (λ (l : List (Option GlobalParts)). globals_after q l) look.globals ∙ sym globals'));
      },
    )

quiet_printed : (ordered : Bool) (a b : BenchState) (command : Command) (out out' : List Line) → IsQuiet command → MadeSame ordered a b command out out' → out ≡ out'
quiet_printed ordered a b command out out' quiet made =
    let some = quiet_tells command quiet a a.server made.s made.p made.call made.first in
    made.printed_is ∙ (printed_same ordered (heard_by a command) made.p made.q made.ps made.qs some made.same made.each ∙ sym made.printed_is')

notes_printed : (ordered : Bool) (a b : BenchState) (out out' : List Line) → MadeSame ordered a b Notes out out' → PrintSame ordered Notes out out'
notes_printed ordered a b out out' made =
    let step_is = sym (same_Some step.TakeNotes made.s made.call) in
    let here = notes_told a.server made.p (subst (λ (k : BenchStep). FirstIs a.server k made.p) step_is made.first) in
    let there = notes_told b.server made.q (subst (λ (k : BenchStep). FirstIs b.server k made.q) step_is made.first') in
    let same = notes_same ordered made.p made.q here.0 there.0 here.1 there.1 made.same in
    let is = made.printed_is ∙ printed_notes made.p made.ps here.0 here.1 in
    let is' = made.printed_is' ∙ printed_notes made.q made.qs there.0 there.1 in
    (λ settled. is ∙ (ap note_lines (same.1 (settled refl)) ∙ sym is'), λ taken. (here.0.items, there.0.items, is, is', same.0))

-- a command that takes no notes
abbrev takes_notes : Command → Bool
takes_notes Notes = true
takes_notes _ = false

lines_printed : (ordered : Bool) (command : Command) (out out' : List Line) → takes_notes command ≡ false → out ≡ out' → PrintSame ordered command out out'
lines_printed ordered command out out' none same = (λ settled. same, λ is. absurd (true≢false (sym (ap takes_notes is) ∙ none)))

-- ---- a dispatch

-- the handler of a dispatch makes no call, and its answers are functions
line_deterministic : (ordered : Bool) → IsDeterministic ordered line_answers
line_deterministic ordered = record {
  requests = λ h h1 h2 a b x y client sender opcode args created u v same so so'.
      (so.0 ∙ sym so'.0, so.1 ∙ sym so'.1, kept a b x y same so.2 so'.2);
  binds = λ h h1 h2 a b x y client global object u v same so so'. (so.0 ∙ sym so'.0, so.1 ∙ sym so'.1, kept a b x y same so.2 so'.2);
}
  where
    kept : (a b x y : BenchBackend) → SameBackend ordered a b → x ≡ a → y ≡ b → SameServer ordered x.server y.server
    kept a b x y same is is' =
        subst (λ (z : BenchBackend). SameServer ordered z.server y.server) (sym is) (subst (λ (z : BenchBackend). SameServer ordered a.server z.server) (sym is') same.server)

same_count : (n m : ℕ) → ◌≡◌ {A = Result ℕ IoFault} (Ok n) (Ok m) → n ≡ m
same_count n m same = cc

dispatches_same : (ordered : Bool) (s t x y : BenchServer) (n : ℕ) (clients : List ClientParts) (count count' : ℕ) → SameServer ordered s t → Dispatches s n clients count x
    → Dispatches t n clients count' y → (count ≡ count') × SameServer ordered x y
dispatches_same ordered s t x y n clients count count' same (h, does) (h', does') =
    let one = dispatches_one (over ScriptSends ScriptReceives (λ _ _ _ _. true))
    (transport_determined ScriptSends ScriptReceives (λ _ _ _ _. true) script_sends_function script_receives_function) ordered line_answers (line_deterministic ordered) clients (line_handler n) h h' s t
    (record { server = x; refused = false }) (record { server = y; refused = false }) (Ok count) (Ok count') same does does' refl refl
    in
    (same_count count count' one.0, one.2)

same_clients : (xs ys : List ClientParts) → map Some xs ≡ map Some ys → xs ≡ ys
same_clients [] [] same = refl
same_clients [] (y ∷ ys) same = let n = ap length same in absurd (omega (arith, n))
same_clients (x ∷ xs) [] same = let n = ap length same in absurd (omega (arith, n))
same_clients (x ∷ xs) (y ∷ ys) same =
    let first : x ≡ y = cc in
    let tail : map Some xs ≡ map Some ys = cc in
    let rest = same_clients xs ys tail in
    cc

-- the clients that were inserted last at the slots
abbrev clients_at : List ℕ → List (Option Seat) → List (Option ClientParts)
clients_at slots l = map (λ (slot : ℕ). option_map client_of (latest slot l)) slots

dispatch_same : (ordered : Bool) (a b x y : BenchState) (n : ℕ) (slots : List ℕ) (out out' : List Line) → LookSame ordered a b → DoesDispatch a n slots out x → DoesDispatch b n slots out' y
    → (out ≡ out') × LookSame ordered x y
dispatch_same ordered a b x y n slots out out' look (clients, are, count, mid, does, taken, (told, run), printed_is, kept, globals)
    (clients', are', count', mid', does', taken', (told', run'), printed_is', kept', globals') =
    let named = same_clients clients clients' (are ∙ (ap (clients_at slots) look.clients ∙ sym are')) in
    let there = subst (λ (l : List ClientParts). Dispatches b.server n l count' mid') (sym named) does' in
    let one = dispatches_same ordered a.server b.server mid mid' n clients count count' look.server does there in
    let heard : all_clients a ≡ all_clients b = ap every_client look.clients in
    let steps = length-map (all_clients a) take_step in
    let told_there : length taken' ≡ length (all_clients a) = told' ∙ ap length (sym heard) in
    let run_there = subst (λ (l : List ClientParts). Performs bench_world mid' (entries (map take_step l) taken') y.server) (sym heard) run' in
    let took = performance_one bench_world (scripts_determined (λ _ _ _ _. true)) ordered mid mid' x.server y.server (map take_step (all_clients a)) taken taken'
    (told ∙ sym steps) (told_there ∙ sym steps) one.1 run run_there in (
      printed_is
          ∙ (ap (λ (k : ℕ). dispatched_text k ∷ records_lines (all_clients a) taken) one.0
          ∙ (ap (λ (l : List Line). dispatched_text count' ∷ l) (records_same ordered (all_clients a) taken taken' took.0)
          ∙ (ap (λ (l : List ClientParts). dispatched_text count' ∷ records_lines l taken') heard ∙ sym printed_is'))),
      record { server = took.1; clients = kept ∙ (look.clients ∙ sym kept'); globals = globals ∙ (look.globals ∙ sym globals') },
    )

-- ---- a command

pub command_one : (ordered : Bool) (a b x y : BenchState) (n : ℕ) (command : Command) (out out' : List Line) → LookSame ordered a b → Does a n command out x → Does b n command out' y
    → PrintSame ordered command out out' × LookSame ordered x y
command_one ordered a b x y n (Client slot c) out out' look does does' =
    let one = client_one ordered a b x y n slot c out out' look does does' in
    (lines_printed ordered (Client slot c) out out' refl one.0, one.1)
command_one ordered a b x y n (Dispatch slots) out out' look does does' =
    let one = dispatch_same ordered a b x y n slots.items out out' look does does' in
    (lines_printed ordered (Dispatch slots) out out' refl one.0, one.1)
command_one ordered a b x y n Insert out out' look does does' =
    let made = made_same ordered a b x y Insert out out' look does does' in
    (lines_printed ordered Insert out out' refl (quiet_printed ordered a b Insert out out' tt made.0), made.1)
command_one ordered a b x y n (Create name version) out out' look does does' =
    let made = made_same ordered a b x y (Create name version) out out' look does does' in
    (lines_printed ordered (Create name version) out out' refl (quiet_printed ordered a b (Create name version) out out' tt made.0), made.1)
command_one ordered a b x y n (Disable name) out out' look does does' =
    let made = made_same ordered a b x y (Disable name) out out' look does does' in
    (lines_printed ordered (Disable name) out out' refl (quiet_printed ordered a b (Disable name) out out' tt made.0), made.1)
command_one ordered a b x y n (Remove name) out out' look does does' =
    let made = made_same ordered a b x y (Remove name) out out' look does does' in
    (lines_printed ordered (Remove name) out out' refl (quiet_printed ordered a b (Remove name) out out' tt made.0), made.1)
command_one ordered a b x y n Flush out out' look does does' =
    let made = made_same ordered a b x y Flush out out' look does does' in
    (lines_printed ordered Flush out out' refl (quiet_printed ordered a b Flush out out' tt made.0), made.1)
command_one ordered a b x y n Cleanup out out' look does does' =
    let made = made_same ordered a b x y Cleanup out out' look does does' in
    (lines_printed ordered Cleanup out out' refl (quiet_printed ordered a b Cleanup out out' tt made.0), made.1)
command_one ordered a b x y n Notes out out' look does does' =
    let made = made_same ordered a b x y Notes out out' look does does' in
    (notes_printed ordered a b out out' made.0, made.1)
