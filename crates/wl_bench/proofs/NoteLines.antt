-- That no line which a command prints has a line feed, lines of notes included: the interface that an error names is the display.
use Rattle.std.proofs.Common.{◌≡◌, ◌≢◌, ◌∙◌, ℕ, Bool, true, false, List, [], ◌∷◌, ◌++◌, map, codes, Option, None, Some, Result, Ok, Err, Vec, Global, refl, sym, ap, subst, arith}
use mathlib.Core.Logic.{inl, inr}
use Rattle.std.specs.Prelude.{⊤, if◌then◌else◌, Contains, MatchOption}
use Rattle.std.specs.Fmt.{decimal}
use Rattle.std.specs.List.{All}
use Rattle.std.proofs.lemmas.Bool.{eq-eqb, true≢false}
use Rattle.std.proofs.lemmas.Option.{same_Some}
use Rattle.std.proofs.lemmas.List.Elements.{All-cons, All-nil, Contains-append_left, Contains-append_right, Contains-push}
use Rattle.wl_wire.specs.declared.error.IoFault.{IoFault}
use Rattle.wl_wire.specs.declared.error.ProtocolError.{ProtocolError}
use Rattle.wl_wire.specs.Table.{InterfaceRow, name_of}
use Rattle.wl_link.specs.Runs.{entries}
use Rattle.wl_link.specs.Script.{Script, ScriptReceives, ScriptSends}
use Rattle.wl_server_client.specs.declared.globals.handler.ShownToAll.{ShownToAll}
use Rattle.wl_server_client.specs.declared.notes.DisconnectReason.TheVariants as ended
use Rattle.wl_server_client.specs.declared.notes.Happening.{Happening}
use Rattle.wl_server_client.specs.declared.notes.Happening.TheVariants as happened
use Rattle.wl_server_client.specs.declared.notes.Note.{Note}
use Rattle.wl_server_client.specs.declared.notes.Note.TheVariants as note
use Rattle.wl_server_client.specs.declared.reading.action.Action.TheVariants as action
use Rattle.wl_server_client.specs.declared.reading.action.Reading.{Reading}
use Rattle.wl_server_client.specs.declared.error.FinishError.{FinishError}
use Rattle.wl_server_model.specs.declared.step.Reply.TheVariants as reply
use Rattle.wl_server_model.specs.declared.step.Step.TheVariants as step
use Rattle.wl_server_model.specs.Dispatch.{Answers, EachIsDispatched, Handles, IsDispatched, Last, Round, Rounds, more, no_action, none, not_ended}
use Rattle.wl_server_client.specs.Globals.{Offer}
use Rattle.wl_server_model.specs.Identified.{waiting_of}
use Rattle.wl_server_client.specs.Ids.{ClientParts, same_client}
use Rattle.wl_server_model.specs.NotedEnds.Errors.{EachCallCausesItsErrors, MayKillFor, TellsError}
use Rattle.wl_server_model.specs.PartStep.{Asked, Call, Changed, PartStep, World, over}
use Rattle.wl_server_model.specs.Runs.{Performs}
use Rattle.wl_server_model.specs.Server.{notes_of, seen, told_of}
use Rattle.wl_server_model.specs.Steps.{Entry, IsChangeFor, OneStep, StandsFor, offer_after}
use Rattle.wl_bench.specs.declared.bench.Open.{Open}
use Rattle.wl_bench.specs.declared.bench.Open.TheVariants as opened
use Rattle.wl_bench.specs.declared.bench.Seat.{Seat}
use Rattle.wl_bench.specs.declared.bench.dispatch.LineHandler.{LineHandler}
use Rattle.wl_bench.specs.declared.command.ClientCommand.{ClientCommand}
use Rattle.wl_bench.specs.declared.command.ClientCommand.TheVariants.{Finish, Accept}
use Rattle.wl_bench.specs.declared.command.Command.{Command}
use Rattle.wl_bench.specs.declared.command.Command.TheVariants.{Insert, Client, Dispatch, Create, Disable, Remove, Flush, Cleanup, Notes}
use Rattle.wl_bench.specs.Answers.{Line, answer_lines, error_place, hex, note_lines, note_text}
use Rattle.wl_bench.specs.Bench.{BenchBackend, BenchReply, BenchServer, BenchState, BenchStep, Dispatches, Does, DoesForAll, Makes, accept_step, all_clients, bench_world, client_calls, finishing, heard_by, line_answers, new_bench, shared_call, take_step}
use Rattle.wl_bench.specs.OneLine.{IsOneLine, PrintsLines}
use Rattle.wl_bench.specs.Record.{Leads, Recorded}
use Rattle.wl_bench.specs.Table.{bench_rows}
use Rattle.wl_bench.proofs.Feeds.{AllUnfed, Unfed, both, byte_parts, does_unfed, hex_unfed, number, printed_behind, two_numbers}
use Rattle.wl_bench.proofs.Others.{step_of}

abbrev BenchEntry : Type 0
BenchEntry = Entry Script ℕ ShownToAll (Unit {0})

-- some client
abbrev any : ClientParts
any = record { slot = 0; serial = 0 }

abbrev BenchCall : Type 0
BenchCall = Call Script ℕ ShownToAll (Unit {0})

-- the world of a dispatch, in which the program changes no script
abbrev dispatch_world : World Script ShownToAll (Unit {0})
dispatch_world = over ScriptSends ScriptReceives (λ _ _ _ _. true)

-- ---- the errors that notes tell of

-- The table is the program's, and no error that a note tells of names an interface with a line feed.
record IsPlain (s : BenchServer) : Type 0 where
  table : s.offer.table ≡ bench_rows
  named : (id : ClientParts) (e : ProtocolError) → TellsError (seen id s) e → Unfed e.object_interface

-- a step that posts no error and kills for none
abbrev IsHarmless : BenchStep → Type 0
IsHarmless (step.PostError o code text) = ⊥
IsHarmless (step.KillClient target (ended.ProtocolError e)) = ⊥
IsHarmless s = ⊤

table_stays : (offer : Offer ShownToAll) (s : BenchStep) (answer : BenchReply) → (offer_after offer (Asked s answer)).table ≡ offer.table
table_stays offer (step.CreateGlobal i version handler) answer = refl
table_stays offer (step.DisableGlobal g) answer = refl
table_stays offer (step.RemoveGlobal g) answer = refl
table_stays offer (step.SetDefaultMaxBufferSize limit) answer = refl
table_stays offer s answer = refl

of_display : (table : List InterfaceRow) (e : ProtocolError) → table ≡ bench_rows → e.object_interface ≡ name_of table 1 → Unfed e.object_interface
of_display table e is names = subst Unfed (sym (names ∙ ap (λ (t : List InterfaceRow). name_of t 1) is)) refl

plain_error : (table : List InterfaceRow) (id : ClientParts) (s : BenchStep) (answer : BenchReply) (e : ProtocolError) → table ≡ bench_rows → IsHarmless s
    → MayKillFor {C = Unit {0}} table id (Asked s answer) e → Unfed e.object_interface
plain_error table id (step.PostError o code text) answer e is safe may = absurd safe
plain_error table id (step.KillClient target (ended.ProtocolError f)) answer e is safe may = absurd safe
plain_error table id (step.KillClient target ended.ConnectionClosed) answer e is safe (mine, closed) = absurd cc
plain_error table id (step.NextAction target) answer e is safe (mine, (code, text, same)) = of_display table e is (ap (λ (f : ProtocolError). f.object_interface) same)
plain_error table id (step.NextActionWithin target reading) answer e is safe (mine, (code, text, same)) =
    of_display table e is (ap (λ (f : ProtocolError). f.object_interface) same)
plain_error table id s answer e is safe may = absurd may

-- a change of a client's script kills for no error
no_cause : (table : List InterfaceRow) (id : ClientParts) (error : ProtocolError) (call other : BenchCall) → IsChangeFor call other
    → MayKillFor {C = Unit {0}} table id other error → MayKillFor {C = Unit {0}} table id call error
no_cause table id error (Asked s answer) (Changed target t) is may = absurd may
no_cause table id error _ _ is may = absurd is

-- A step over scripts stands for a call, or for such a change. So the law of calls is one of steps.
pub steps_cause : ((before after : BenchServer) (e : BenchEntry) → OneStep bench_world before e after
    → (other : BenchEntry) × StandsFor e other × OneStep dispatch_world before other after)
    → EachCallCausesItsErrors ℕ dispatch_world → EachCallCausesItsErrors ℕ bench_world
steps_cause change law before after e one id error tell =
    let (other, stands, made) = change before after e one in
    elim (law before after other made id error tell) [
      | inl was ↦ inl was
      | inr may ↦ inr (elim stands [
        | inl same ↦ subst (λ (f : BenchEntry). MayKillFor before.offer.table id f.call error) same may
        | inr (is, calm, did) ↦ no_cause before.offer.table id error e.call other.call is may
      ])
    ]

module _ (w : World Script ShownToAll (Unit {0})) (law : EachCallCausesItsErrors ℕ w) where
  one_plain : (before after : BenchServer) (entry : BenchEntry) (s : BenchStep) (answer : BenchReply) → entry.call ≡ Asked s answer → IsHarmless s → OneStep w before entry after
      → IsPlain before → IsPlain after
  one_plain before after entry s answer call safe one plain = record {
    table = ap (λ (o : Offer ShownToAll). o.table) one.offer ∙ ap (λ (c : BenchCall). (offer_after before.offer c).table) call ∙ table_stays before.offer s answer ∙ plain.table;
    named = λ id e tell.
        elim (law before after entry one id e tell) [
          | inl was ↦ plain.named id e was
          | inr may ↦ plain_error before.offer.table id s answer e plain.table safe (subst (λ (c : BenchCall). MayKillFor before.offer.table id c e) call may)
        ];
  }

-- ---- the steps of commands

abbrev AreHarmless : List BenchStep → Type 0
AreHarmless [] = ⊤
AreHarmless (s ∷ steps) = IsHarmless s × AreHarmless steps

harmless_both : (a b : List BenchStep) → AreHarmless a → AreHarmless b → AreHarmless (a ++ b)
harmless_both [] b first rest = rest
harmless_both (s ∷ a) b first rest = (first.0, harmless_both a b first.1 rest)

takes_harmless : (heard : List ClientParts) → AreHarmless (map take_step heard)
takes_harmless [] = tt
takes_harmless (c ∷ heard) = (tt, takes_harmless heard)

accepts_harmless : (client : ClientParts) (counts : List ℕ) → AreHarmless (map (accept_step client) counts)
accepts_harmless client [] = tt
accepts_harmless client (n ∷ counts) = (tt, accepts_harmless client counts)

finish_harmless : (client : ClientParts) (action : Option Open) (n : ℕ) → IsHarmless (finishing client action n)
finish_harmless client None n = tt
finish_harmless client (Some (opened.Request true)) n = tt
finish_harmless client (Some (opened.Request false)) n = tt
finish_harmless client (Some opened.Bind) n = tt

calls_harmless : (seat : Seat) (n : ℕ) (c : ClientCommand) → AreHarmless (client_calls seat n c)
calls_harmless seat n (Accept counts) = accepts_harmless seat.client counts.items
calls_harmless seat n Finish = (finish_harmless seat.client seat.action n, tt)
calls_harmless seat n c = (tt, tt)

shared_harmless : (b : BenchState) (command : Command) (s : BenchStep) → shared_call b command ≡ Some s → IsHarmless s
shared_harmless b command s is = subst (λ (o : Option BenchStep). MatchOption o ⊤ IsHarmless) is (each command)
  where
    each : (command : Command) → MatchOption (shared_call b command) ⊤ IsHarmless
    each Insert = tt
    each (Client slot c) = tt
    each (Dispatch slots) = tt
    each (Create name version) = tt
    each (Disable name) = tt
    each (Remove name) = tt
    each Flush = tt
    each Cleanup = tt
    each Notes = tt

-- ---- a dispatch

module _ (law : EachCallCausesItsErrors ℕ dispatch_world) (id : ClientParts) where
  handled_plain : {h h' : LineHandler} {found : BenchBackend} {a : _} {run : List BenchEntry} {lacked : Bool} {why : Option FinishError} {after : BenchServer}
      → Handles dispatch_world line_answers id h found a run lacked why h' after → IsPlain found.server → IsPlain after
  handled_plain {h} {h'} {found} {a} {run} {lacked} {why} {after} handles plain =
      let end = ends a handles.answers_so in
      one_plain dispatch_world law handles.left.server after handles.ended handles.end handles.answer handles.ended_is end.0 handles.ends
      (subst (λ (b : BenchBackend). IsPlain b.server) (sym end.1) plain)
    where
      ends : (a : _) → Answers dispatch_world line_answers id h found a handles.end h' handles.left → IsHarmless handles.end × (handles.left ≡ found)
      ends (action.Request sender opcode args is_destructor created) (u, answers, is) = (subst IsHarmless (sym is) tt, answers.2)
      ends (action.Bind global object) (u, answers, is) = (subst IsHarmless (sym is) tt, answers.2)
      ends (action.Registry object) (kept, left, is) = (subst IsHarmless (sym is) tt, left)

  round_plain : {h h' : LineHandler} {r r' : Reading} {s s' : BenchServer} {run : List BenchEntry} {lacked : Bool} {why : Option FinishError}
      → Round dispatch_world line_answers id h r s run lacked why h' r' s' → IsPlain s → IsPlain s'
  round_plain {h} {h'} {r} {r'} {s} {s'} {run} {lacked} {why} round plain =
      handled_plain round.handles
      (one_plain dispatch_world law s round.found.server round.read (step.NextActionWithin id r) (reply.NextActionWithin (Ok round.handed) r') round.read_is tt round.reads plain)

  rounds_plain : {h h' : LineHandler} {r r' : Reading} {s s' : BenchServer} {run : List BenchEntry} {lacked : Bool} → Rounds dispatch_world line_answers id h r s run lacked h' r' s'
      → IsPlain s → IsPlain s'
  rounds_plain {h} {h'} {r} {r'} {s} {s'} {run} {lacked} (none no_run unlacked) plain = plain
  rounds_plain {h} {h'} {r} {r'} {s} {s'} {run} {lacked} (more rounds round run_is lacked_is) plain = round_plain round (rounds_plain rounds plain)

  last_plain : {h h' : LineHandler} {r r' : Reading} {s s' : BenchServer} {run : List BenchEntry} {lacked : Bool} {f : IoFault}
      → Last dispatch_world line_answers id h r s run lacked f h' r' s' → IsPlain s → IsPlain s'
  last_plain {h} {h'} {r} {r'} {s} {s'} {run} {lacked} {f} (no_action e error by call run_is lacked_is is kept) plain =
      one_plain dispatch_world law s s' e (step.NextActionWithin id r) (reply.NextActionWithin (Err error) r') call tt by plain
  last_plain {h} {h'} {r} {r'} {s} {s'} {run} {lacked} {f} (not_ended why round is) plain = round_plain round plain

  client_plain : {h h' : LineHandler} {s s' : BenchServer} {run : List BenchEntry} {lacked : Bool} {answer : Result ℕ IoFault}
      → IsDispatched dispatch_world line_answers id h s run lacked answer h' s' → IsPlain s → IsPlain s'
  client_plain {h} {h'} {s} {s'} {run} {lacked} {answer} d plain = last_plain d.rounds_end.end (rounds_plain d.rounds_end.rounds plain)

module _ (law : EachCallCausesItsErrors ℕ dispatch_world) where
  each_plain : {ids : List ClientParts} {h h' : LineHandler} {s s' : BenchServer} {run : List BenchEntry} {lacked : Bool} {total : ℕ}
      → EachIsDispatched dispatch_world line_answers ids h s run lacked total h' s' → IsPlain s → IsPlain s'
  each_plain {ids} {h} {h'} {s} {s'} {run} {lacked} {total} (none empty run_is lacked_is none_read) plain = plain
  each_plain {ids} {h} {h'} {s} {s'} {run} {lacked} {total} (more id answer each serves ids_are run_is lacked_is total_is) plain =
      client_plain law id serves (each_plain each plain)

  dispatched_plain : (before after : BenchServer) (n : ℕ) (clients : List ClientParts) (count : ℕ) → Dispatches before n clients count after → IsPlain before → IsPlain after
  dispatched_plain before after n clients count (h, (calls, lacked, total, mid, each, ends)) plain =
      one_plain dispatch_world law mid after ends.cleanup step.Cleanup ends.out ends.cleanup_is tt ends.cleans (each_plain each plain)

-- ---- a command

module _ (law : EachCallCausesItsErrors ℕ bench_world) (dispatches : EachCallCausesItsErrors ℕ dispatch_world) where
  run_plain : (steps : List BenchStep) (answers : List BenchReply) (before after : BenchServer) → AreHarmless steps → Performs bench_world before (entries steps answers) after
      → IsPlain before → IsPlain after
  run_plain [] answers before after safe run plain = subst IsPlain (sym run) plain
  run_plain (s ∷ steps) [] before after safe run plain = subst IsPlain (sym run) plain
  run_plain (s ∷ steps) (a ∷ answers) before after safe (mid, (entry, call, refused, one), run) plain =
      run_plain steps answers mid after safe.1 run (one_plain bench_world law before mid entry s a call safe.0 one plain)

  makes_plain : (before after : BenchServer) (calls : List BenchStep) (heard : List ClientParts) (p : BenchReply) (ps : List BenchReply) → AreHarmless calls
      → Makes before calls heard p ps after → IsPlain before → IsPlain after
  makes_plain before after calls heard p ps safe (earlier, count, told, run) plain =
      run_plain (calls ++ map take_step heard) (earlier ++ p ∷ ps) before after (harmless_both calls (map take_step heard) safe (takes_harmless heard)) run plain

  shared_plain : (b x : BenchState) (command : Command) (out : List Line) → DoesForAll b command out x → IsPlain b.server → IsPlain x.server
  shared_plain b x command out (s, call, p, ps, makes, printed_is, clients, globals) plain =
      makes_plain b.server x.server (s ∷ []) (heard_by b command) p ps (shared_harmless b command s call, tt) makes plain

  does_plain : (b x : BenchState) (n : ℕ) (command : Command) (out : List Line) → Does b n command out x → IsPlain b.server → IsPlain x.server
  does_plain b x n (Client slot c) out (seat, here, p, ps, makes, printed_is, clients, globals) plain =
      makes_plain b.server x.server (client_calls seat n c) (seat.client ∷ []) p ps (calls_harmless seat n c) makes plain
  does_plain b x n (Dispatch slots) out (clients, are, count, mid, does, taken, (told, run), printed_is, kept, globals) plain =
      run_plain (map take_step (all_clients b)) taken mid x.server (takes_harmless (all_clients b)) run (dispatched_plain dispatches b.server mid n clients count does plain)
  does_plain b x n Insert out does plain = shared_plain b x Insert out does plain
  does_plain b x n (Create name version) out does plain = shared_plain b x (Create name version) out does plain
  does_plain b x n (Disable name) out does plain = shared_plain b x (Disable name) out does plain
  does_plain b x n (Remove name) out does plain = shared_plain b x (Remove name) out does plain
  does_plain b x n Flush out does plain = shared_plain b x Flush out does plain
  does_plain b x n Cleanup out does plain = shared_plain b x Cleanup out does plain
  does_plain b x n Notes out does plain = shared_plain b x Notes out does plain

-- ---- lines of notes

-- an interface that the note names has no line feed
abbrev NamesUnfed : Note ℕ → Type 0
NamesUnfed (note.Disconnected client (ended.ProtocolError e)) = Unfed e.object_interface
NamesUnfed n = ⊤

note_unfed : (n : Note ℕ) → NamesUnfed n → Unfed (note_text n)
note_unfed (note.Initialized client) named = both (codes "initialized ") (decimal client.slot) refl (number client.slot)
note_unfed (note.Disconnected client ended.ConnectionClosed) named =
    both (codes "disconnected " ++ decimal client.slot) (codes " closed") (both (codes "disconnected ") (decimal client.slot) refl (number client.slot)) refl
note_unfed (note.Disconnected client (ended.ProtocolError e)) named =
    let slot = both (codes "disconnected ") (decimal client.slot) refl (number client.slot) in
    let place = two_numbers (codes "disconnected " ++ decimal client.slot ++ codes " error ") e.code e.object_id (both (codes "disconnected " ++ decimal client.slot) (codes " error ") slot refl) in
    let at = error_place client.slot e.code e.object_id in
    let space = both at (codes " ") place refl in
    let front = both (at ++ codes " " ++ e.object_interface) (codes " ") (both (at ++ codes " ") e.object_interface space named) refl in
    both (at ++ codes " " ++ e.object_interface ++ codes " ") (hex e.message) front (hex_unfed e.message)
note_unfed (note.Destroyed client object n) named =
    let front = codes "destroyed " ++ decimal client.slot ++ codes " " ++ decimal object.number in
    let space = both front (codes " ") (two_numbers (codes "destroyed ") client.slot object.number refl) refl in
    both (front ++ codes " ") (decimal n) space (number n)

-- the errors of a client among notes name such interfaces
abbrev ErrorsUnfed : List (Note ℕ) → Type 0
ErrorsUnfed notes = (id : ClientParts) (e : ProtocolError) → Contains (notes_of id notes) (happened.Disconnected (ended.ProtocolError e)) → Unfed e.object_interface

first_named : (n : Note ℕ) (rest : List (Note ℕ)) → ErrorsUnfed (n ∷ rest) → NamesUnfed n
first_named (note.Disconnected client (ended.ProtocolError e)) rest all =
    all client e
    (Contains-append_left (told_of client (note.Disconnected client (ended.ProtocolError e))) (notes_of client rest) (happened.Disconnected (ended.ProtocolError e))
    (own (same_client client client) (own_client client)))
  where
    own_client : (id : ClientParts) → same_client id id ≡ true
    own_client id = rw (eq-eqb id.slot id.slot refl) (eq-eqb id.serial id.serial refl)

    own : (b : Bool) → b ≡ true → Contains {X = Happening ℕ} (if b then (happened.Disconnected (ended.ProtocolError e) ∷ []) else []) (happened.Disconnected (ended.ProtocolError e))
    own true is = Contains-push [] (happened.Disconnected (ended.ProtocolError e))
    own false is = absurd (true≢false (sym is))
first_named n rest all = tt

notes_unfed : (notes : List (Note ℕ)) → ErrorsUnfed notes → AllUnfed (map note_text notes)
notes_unfed [] all = tt
notes_unfed (n ∷ rest) all = (
  note_unfed n (first_named n rest all),
  notes_unfed rest (λ id e among. all id e (Contains-append_right (told_of id n) (notes_of id rest) (happened.Disconnected (ended.ProtocolError e)) among)),
)

lines_of_notes : (notes : List (Note ℕ)) → ErrorsUnfed notes → AllUnfed (note_lines notes)
lines_of_notes [] all = (refl, tt)
lines_of_notes (n ∷ rest) all = notes_unfed (n ∷ rest) all

module _ (b x : BenchServer) (p : BenchReply) (entry : BenchEntry) where
  abbrev Part' : ClientParts → Type 0
  Part' id = PartStep bench_world id b.offer step.TakeNotes p (seen id b) (entry.lacks id) (entry.did id) (seen id x)

  same_notes : (out out' : Vec (Note ℕ) Global) → p ≡ reply.TakeNotes (Ok out) → p ≡ reply.TakeNotes (Ok out') → out.items ≡ out'.items
  same_notes out out' is is' =
      let same : out ≡ out' = cc in
      ap (λ (v : Vec (Note ℕ) Global). v.items) same

  made_notes : (id : ClientParts) (out : Vec (Note ℕ) Global) → p ≡ reply.TakeNotes (Ok out) → Part' id → notes_of id out.items ≡ (seen id b).made
  made_notes id out is (Ok out', is', h) = ap (notes_of id) (same_notes out out' is is') ∙ h.0
  made_notes id out is (Err e, is', h) = absurd cc

  taken_unfed : IsPlain b → ((id : ClientParts) → Part' id) → AllUnfed (answer_lines p)
  taken_unfed plain each = of (each any)
    where
      of : Part' any → AllUnfed (answer_lines p)
      of (Err e, is, h) = subst AllUnfed (sym (ap answer_lines is)) (refl, tt)
      of (Ok out, is, h) =
          subst AllUnfed (sym (ap answer_lines is))
          (lines_of_notes out.items (λ id e among. plain.named id e
          (Contains-append_left (seen id b).made (waiting_of (seen id b).part) (happened.Disconnected (ended.ProtocolError e))
          (subst (λ (l : List (Happening ℕ)). Contains l (happened.Disconnected (ended.ProtocolError e))) (made_notes id out is (each id)) among))))

notes_told : (b x : BenchServer) (p : BenchReply) (ps : List BenchReply) → IsPlain b → Makes b (step.TakeNotes ∷ []) [] p ps x → AllUnfed (answer_lines p)
notes_told b x p ps plain ([], count, told, (mid, (entry, call, refused, one), run)) =
    taken_unfed b mid p entry plain (λ id. step_of id step.TakeNotes p b mid entry call one)
notes_told b x p ps plain (e ∷ earlier, count, told, run) = absurd (omega (arith, count))

does_notes : (b x : BenchState) (out : List Line) → IsPlain b.server → DoesForAll b Notes out x → AllUnfed out
does_notes b x out plain (s, call, p, ps, makes, printed_is, clients, globals) =
    let there : Makes b.server (step.TakeNotes ∷ []) [] p ps x.server
    = subst (λ (k : BenchStep). Makes b.server (k ∷ []) [] p ps x.server) (sym (same_Some step.TakeNotes s call)) makes
    in
    subst AllUnfed (sym printed_is) (printed_behind [] p ps (notes_told b.server x.server p ps plain there))

-- ---- records

one_line : (line : Line) → Unfed line → IsOneLine line
one_line [] plain = All-nil (λ (c : ℕ). c ≢ 10)
one_line (b ∷ line) plain =
    let p = byte_parts b line plain in All-cons (λ (c : ℕ). c ≢ 10) b line (λ is. true≢false (sym (eq-eqb b 10 is) ∙ p.0)) (one_line line p.1)

one_lines : (all : List Line) → AllUnfed all → All IsOneLine all
one_lines [] plain = All-nil IsOneLine
one_lines (line ∷ all) plain = All-cons IsOneLine line all (one_line line plain.0) (one_lines all plain.1)

module _ (law : EachCallCausesItsErrors ℕ bench_world) (dispatches : EachCallCausesItsErrors ℕ dispatch_world) where
  prints_lines : (b x : BenchState) (told : List Recorded) → IsPlain b.server → Leads b told x → All PrintsLines told
  prints_lines b x [] plain leads = All-nil PrintsLines
  prints_lines b x (t ∷ told) plain (command, is_line, mid, does, leads) =
      All-cons PrintsLines t told (one_lines t.answer (does_unfed b mid t.number command t.answer (does_notes b mid t.answer plain) does))
      (prints_lines mid x told (does_plain law dispatches b mid t.number command t.answer does plain) leads)

  pub each_line_is_one : (told : List Recorded) (x : BenchState) → Leads (new_bench bench_rows) told x → All PrintsLines told
  each_line_is_one told x leads = prints_lines (new_bench bench_rows) x told (record { table = refl; named = λ id e (k, below, is). absurd (omega (arith, below)) }) leads
