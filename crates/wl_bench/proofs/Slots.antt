-- The clients that a dispatch names by their slots, and what the dispatch of them comes to.
use Rattle.std.proofs.Common.{◌≡◌, ◌≢◌, ◌∙◌, ℕ, ◌<◌, ◌≤◌, ◌+◌, Bool, true, false, nat_lt, List, ◌∷◌, length, map, get_or, Option, None, Some, Result, Ok, Vec, Global, ap, arith, refl, subst, sym}
use Rattle.std.proofs.lemmas.Bool.{ltb-false, ltb-true}
use Rattle.std.proofs.lemmas.List.{get_or_default, length-map}
use Rattle.std.specs.Prelude.{IfOk, MatchOption}
use Rattle.wl_wire.specs.declared.error.IoFault.{IoFault}
use Rattle.wl_link.specs.Runs.{entries}
use Rattle.wl_link.specs.Script.{ScriptReceives, ScriptSends}
use Rattle.wl_server_model.specs.Dispatch.{DispatchesAll}
use Rattle.wl_server_client.specs.Ids.{ClientParts}
use Rattle.wl_server_model.specs.PartStep.{over}
use Rattle.wl_server_model.specs.Runs.{Performs}
use Rattle.wl_bench.specs.Answers.{Line, dispatched_text, records_lines}
use Rattle.wl_bench.specs.declared.bench.dispatch.LineHandler.{LineHandler}
use Rattle.wl_bench.specs.declared.command.Command.{Command}
use Rattle.wl_bench.specs.declared.command.Command.TheVariants.{Dispatch}
use Rattle.wl_bench.specs.Bench.{BenchBackend, BenchReply, BenchServer, BenchState, BenchStep, Dispatches, Does, DoesDispatch, LacksClient, NamesNone, TakesRecords, all_clients, bench_world, client_at, latest, line_answers, line_handler, take_step}

-- ---- slots

-- at the slot of this place no client was inserted
pub lacks_at : (b : BenchState) (slots : List ℕ) (i : ℕ) → i < length slots → latest (get_or slots i 0) b.clients ≡ None → LacksClient b slots
lacks_at b slots i few none = (get_or slots i 0, (i, few, get_or_default slots i (get_or slots i 0) 0 few), none)

pub no_other : {X : Type 0} (o : Option X) → ((x : X) → o ≡ Some x → ⊥) → o ≡ None
no_other None none = refl
no_other (Some x) none = absurd (none x refl)

-- at each of the slots so far one was
abbrev pub HasSoFar : BenchState → List ℕ → ℕ → Type 0
HasSoFar b slots i = (k : ℕ) → k < i → latest (get_or slots k 0) b.clients ≢ None

pub has_more : (b : BenchState) (slots : List ℕ) (i : ℕ) → HasSoFar b slots i → latest (get_or slots i 0) b.clients ≢ None → HasSoFar b slots (i + 1)
has_more b slots i so_far one k few = at (nat_lt k i) refl
  where
    at : (t : Bool) → nat_lt k i ≡ t → latest (get_or slots k 0) b.clients ≢ None
    at true e = so_far k (ltb-true k i e)
    at false e =
        let least = ltb-false k i e in
        let same : i ≡ k = omega (arith, few, least) in
        subst (λ (j : ℕ). latest (get_or slots j 0) b.clients ≢ None) same one

pub lacks_none : (b : BenchState) (slots : List ℕ) (i : ℕ) → HasSoFar b slots i → length slots ≤ i → ¬ (LacksClient b slots)
lacks_none b slots i so_far all (slot, (k, few, is), none) =
    let same : slot ≡ get_or slots k 0 = sym is ∙ get_or_default slots k slot 0 few in
    so_far k (omega (arith, few, all)) (subst (λ (s : ℕ). latest s b.clients ≡ None) same none)

-- ---- the call

-- what the call says of itself, where no memory was refused and requests were counted
pub dispatched : (before : BenchServer) (n : ℕ) (clients : List ClientParts) (count : ℕ) (answer : Result ℕ IoFault) (h : LineHandler) (left : BenchBackend)
    → DispatchesAll (over ScriptSends ScriptReceives (λ _ _ _ _. true)) line_answers clients (line_handler n) before answer h left
    → answer ≡ Ok count → left.refused ≡ false → Dispatches before n clients count left.server
dispatched before n clients count answer h left all is refused =
    let ok = subst (λ (r : Result ℕ IoFault). DispatchesAll (over ScriptSends ScriptReceives (λ _ _ _ _. true)) line_answers clients (line_handler n) before r h left) is all in
    (h, subst (λ (b : Bool). DispatchesAll (over ScriptSends ScriptReceives (λ _ _ _ _. true)) line_answers clients (line_handler n) before (Ok count) h (record { server = left.server; refused = b })) refused ok)

-- ---- the records behind it

pub takes_records : (before after : BenchServer) (steps : List BenchStep) (heard : List ClientParts) (taken : List BenchReply) → steps ≡ map take_step heard
    → length taken ≡ length steps → Performs bench_world before (entries steps taken) after → TakesRecords before heard taken after
takes_records before after steps heard taken same count run = (
  count ∙ ap length same ∙ length-map heard take_step,
  subst (λ (s : List BenchStep). Performs bench_world before (entries s taken) after) same run,
)

-- ---- the whole

pub does_dispatch : (before mid after : BenchState) (n : ℕ) (slots : List ℕ) (clients given heard asked told : List ClientParts) (count : ℕ)
    (taken seen : List BenchReply) (out : List Line) → map Some clients ≡ map (client_at before) slots → given ≡ clients
    → Dispatches before.server n given count mid.server → heard ≡ all_clients before → asked ≡ heard
    → TakesRecords mid.server asked taken after.server → told ≡ heard → seen ≡ taken
    → out ≡ dispatched_text count ∷ records_lines told seen → mid.clients ≡ before.clients → mid.globals ≡ before.globals
    → after.clients ≡ mid.clients → after.globals ≡ mid.globals → DoesDispatch before n slots out after
does_dispatch before mid after n slots clients given heard asked told count taken seen out named lent all every first records second third lines c g c' g' = (
  clients,
  named,
  count,
  mid.server,
  subst (λ (l : List ClientParts). Dispatches before.server n l count mid.server) lent all,
  taken,
  subst (λ (l : List ClientParts). TakesRecords mid.server l taken after.server) (first ∙ every) records,
  lines ∙ ap (λ (l : List ClientParts). dispatched_text count ∷ records_lines l seen) (second ∙ every)
      ∙ ap (λ (l : List BenchReply). dispatched_text count ∷ records_lines (all_clients before) l) third,
  c' ∙ c,
  g' ∙ g,
)

-- what is answered of the slots of a command is answered of the command
pub command_does : {L E : Type 0} (before after : BenchState) (n : ℕ) (command : Command) (slots : Vec ℕ Global) (given : List ℕ) (text : L → List Line)
    (r : Result (Option L) E) → command ≡ Dispatch slots → given ≡ slots.items
    → IfOk r (λ answer. MatchOption answer (LacksClient before given × (after ≡ before)) (λ lines. DoesDispatch before n given (text lines) after))
    → IfOk r (λ answer. MatchOption answer (NamesNone before command × (after ≡ before)) (λ lines. Does before n command (text lines) after))
command_does before after n command slots given text r is lent answered =
    let of_slots = subst
    (λ (l : List ℕ). IfOk r (λ answer. MatchOption answer (LacksClient before l × (after ≡ before)) (λ lines. DoesDispatch before n l (text lines) after)))
    lent answered in
    subst (λ (c : Command). IfOk r (λ answer. MatchOption answer (NamesNone before c × (after ≡ before)) (λ lines. Does before n c (text lines) after)))
    (sym is) of_slots
