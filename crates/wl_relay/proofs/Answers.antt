-- The lines after the table, one after another, and what is written for each.
use Rattle.std.proofs.Common.{◌≡◌, ℕ, suc, ◌+◌, List, [], ◌∷◌, ◌++◌, map, length-append, append_assoc, append-nil, Option, None, Some, Result, Ok, Err, codes, refl, sym, ap, subst, ◌∙◌, arith}
use Rattle.std.specs.Prelude.{IfSome}
use Rattle.std.specs.Io.KnownBytes.{Appends, Keeps}
use Rattle.std.proofs.lemmas.Grind.{flat_map-append}
use Rattle.std.proofs.lemmas.List.{map-append}
use Rattle.wl_wire.specs.declared.argument.Token.{Token}
use Rattle.wl_link.specs.Exchange.{Queue}
use Rattle.wl_follow.specs.Sides.{other_side}
use Rattle.wl_follow.specs.declared.side.Side.{Side}
use Rattle.wl_follow.specs.declared.side.Side.TheVariants.{Client, Server}
use Rattle.wl_relay.specs.declared.mode.Mode.{Mode}
use Rattle.wl_relay.specs.declared.mode.Mode.TheVariants.{HandOn, Log}
use Rattle.wl_relay.specs.declared.stop.Stop.{Stop}
use Rattle.wl_relay.specs.declared.stop.Stop.TheVariants.{BadLine, BadTable, Failed}
use Rattle.wl_relay.specs.Flow.{Arrives, KeepsOtherWay, Logged, ReadsAll, RelayState, TakesLog, TakesOut, to_send}
use Rattle.wl_relay.specs.Log.{Known}
use Rattle.wl_relay.specs.Input.{Line, fed, lines, text_of}
use Rattle.wl_relay.specs.Inside.Reading.{FindsTable, HasAnswered, HasNoLine, ReadsLine}
use Rattle.wl_relay.specs.Program.{Answer, Answered, HasNoneReady, IsBad, IsNewRelay, Runs, RunsLines, SentAll, Serves, Takes, TakesEach, answer, logged_line, sent_line, sent_lines, table_with}
use Rattle.wl_wire.specs.Table.{InterfaceRow, IsAcceptedTable}
use Rattle.wl_relay.proofs.Held.{appends_more, keeps_after}
use mathlib.Core.Logic.{inl}

-- ---- sends

pub each_more : (side : Side) (a b c : RelayState) (sends : List Queue) (q : Queue) → TakesEach side sends a b → TakesOut side q b c
    → TakesEach side (sends ++ q ∷ []) a c
each_more side a b c [] q same t = (c, subst (λ (r : RelayState). TakesOut side q r c) same t, refl)
each_more side a b c (s ∷ sends) q (mid, first, rest) t = (mid, first, each_more side mid b c sends q rest t)

sent_more : (mode : Mode) (side : Side) (sends : List Queue) (q : Queue)
    → text_of (sent_lines mode side (sends ++ q ∷ [])) ≡ text_of (sent_lines mode side sends) ++ text_of (sent_lines mode side (q ∷ []))
sent_more HandOn side sends q =
    ap text_of (map-append (λ (s : Queue). sent_line side s) sends (q ∷ [])) ∙ flat_map-append fed (sent_lines HandOn side sends) (sent_lines HandOn side (q ∷ []))
sent_more Log side sends q = refl

-- what was taken out and written so far
abbrev pub HasSent : Mode → Side → RelayState → RelayState → Option (List ℕ) → Option (List ℕ) → Type 0
HasSent mode side a b held held' =
    (sends : List Queue) × TakesEach side sends a b × Appends held held' (text_of (sent_lines mode side sends))

pub sent_next : (mode : Mode) (side : Side) (a b c : RelayState) (held mid after : Option (List ℕ)) → HasSent mode side a b held mid
    → (q : Queue) × TakesOut side q b c × Appends mid after (text_of (sent_lines mode side (q ∷ []))) → HasSent mode side a c held after
sent_next mode side a b c held mid after (sends, each, adds) (q, t, more) = (
  sends ++ q ∷ [],
  each_more side a b c sends q each t,
  subst (λ (l : List ℕ). Appends held after l) (sym (sent_more mode side sends q))
      (appends_more held mid after (text_of (sent_lines mode side sends)) (text_of (sent_lines mode side (q ∷ []))) adds more),
)

-- sends to one side leave what is to be sent to the other, and what is known
pub each_keeps : (side : Side) (sends : List Queue) (a b : RelayState) → TakesEach side sends a b
    → (to_send (other_side side) b ≡ to_send (other_side side) a) × (b.known ≡ a.known)
each_keeps side [] a b same = (ap (to_send (other_side side)) same, ap (λ (r : RelayState). r.known) same)
each_keeps side (q ∷ sends) a b (mid, t, rest) =
    let k = each_keeps side sends mid b rest in (k.0 ∙ t.other_sends, k.1 ∙ t.known)

each_ready : (side : Side) (sends : List Queue) (a b : RelayState) → TakesEach side sends a b → HasNoneReady a → HasNoneReady b
each_ready side [] a b same none = subst HasNoneReady (sym same) none
each_ready Client (q ∷ sends) a b (mid, t, rest) none = each_ready Client sends mid b rest (t.none_ready, t.other_ready ∙ none.1)
each_ready Server (q ∷ sends) a b (mid, t, rest) none = each_ready Server sends mid b rest (t.other_ready ∙ none.0, t.none_ready)

-- ---- an answer

answer_text : (mode : Mode) (log : List (List ℕ)) (ss cs : List Queue)
    → text_of (answer mode log ss cs)
    ≡ text_of (map logged_line log) ++ (text_of (sent_lines mode Server ss) ++ (text_of (sent_lines mode Client cs) ++ fed (codes "ok")))
answer_text mode log ss cs =
    let ok = codes "ok" ∷ [] in
    let cl = sent_lines mode Client cs in
    let sl = sent_lines mode Server ss in
    flat_map-append fed (map logged_line log) (sl ++ (cl ++ ok))
    ∙ ap (λ (l : List ℕ). text_of (map logged_line log) ++ l) (flat_map-append fed sl (cl ++ ok)
    ∙ ap (λ (l : List ℕ). text_of sl ++ l) (flat_map-append fed cl ok ∙ ap (λ (l : List ℕ). text_of cl ++ l) (append-nil (fed (codes "ok")))))

-- the parts of an answer, written one after another
pub served : (mode : Mode) (before logged server after : RelayState) (log : List (List ℕ)) (held h1 h2 h3 h4 held' : Option (List ℕ)) → HasNoneReady before
    → TakesLog log before logged → Appends held h1 (text_of (map logged_line log))
    → HasSent mode Server logged server h1 h2 → SentAll Server server
    → HasSent mode Client server after h2 h3 → SentAll Client after
    → Appends h3 h4 (fed (codes "ok")) → Keeps h4 held'
    → (out : List Line) × Serves mode before out after × Appends held held' (text_of out)
served mode before logged server after log held h1 h2 h3 h4 held' none takes wrote (ss, each_server, wrote_server) all_server (cs, each_client, wrote_client) all_client ok flushed =
    let quiet : HasNoneReady logged = subst HasNoneReady (sym takes.1) none in
    let ready = each_ready Client cs server after each_client (each_ready Server ss logged server each_server quiet) in
    let server_keeps = each_keeps Server ss logged server each_server in
    let client_keeps = each_keeps Client cs server after each_client in
    let logs = ap (λ (r : RelayState). r.known.log) takes.1 in
    let known = client_keeps.1 ∙ server_keeps.1 in
    let three = appends_more h2 h3 h4 (text_of (sent_lines mode Client cs)) (fed (codes "ok")) wrote_client ok in
    let two = appends_more h1 h2 h4 (text_of (sent_lines mode Server ss)) (text_of (sent_lines mode Client cs) ++ fed (codes "ok")) wrote_server three in
    let one = appends_more held h1 h4 (text_of (map logged_line log)) (text_of (sent_lines mode Server ss) ++ (text_of (sent_lines mode Client cs) ++ fed (codes "ok"))) wrote two in
    let all = keeps_after held h4 held' (text_of (answer mode log ss cs)) (subst (λ (l : List ℕ). Appends held h4 l) (sym (answer_text mode log ss cs)) one) flushed in (
      answer mode log ss cs,
      record {
        logged = logged;
        served = server;
        log = log;
        to_server = ss;
        to_client = cs;
        takes_log = takes;
        serves_server = each_server;
        serves_client = each_client;
        out_is = refl;
        emptied = record {
          to_server = ap (λ (q : Queue). q.bytes) client_keeps.0 ∙ all_server;
          to_client = all_client;
          no_log = ap (λ (k : Known). k.log) known ∙ logs;
          none_ready = ready;
        };
      },
      all,
    )

-- what came was taken, by the bytes and tokens that it is
pub taken : (side : Side) (a b : RelayState) (came was : Queue) → came.bytes ≡ was.bytes → came.tokens ≡ was.tokens → Arrives side came a b
    → Logged side came a b → ReadsAll side b → KeepsOtherWay side a b → Takes side was a b
taken side a b came was bytes tokens arrives logged reads other =
    let with_bytes : List ℕ → Queue = λ (bs : List ℕ). record { bytes = bs; tokens = came.tokens } in
    let with_tokens : List Token → Queue = λ (ts : List Token). record { bytes = was.bytes; tokens = ts } in
    let same : came ≡ was = ap with_bytes bytes ∙ ap with_tokens tokens in
    subst (λ (q : Queue). Takes side q a b) same (record { arrives = arrives; logged = logged; reads_all = reads; other_way = other })

-- ---- lines

answer_more : (mode : Mode) (a b c : RelayState) (front : List Line) (line : Line) (out more : List Line) → Answer mode a front out b
    → Answered mode b line more c → Answer mode a (front ++ line ∷ []) (out ++ more) c
answer_more mode a b c [] line out more (none, same) is =
    (more, [], c, subst (λ (r : RelayState). Answered mode r line more c) same is, (refl, refl), ap (λ (l : List Line). l ++ more) none ∙ sym (append-nil more))
answer_more mode a b c (l ∷ front) line out more (first, others, mid, is_first, rest, parts) is =
    (first, others ++ more, mid, is_first, answer_more mode mid b c front line others more rest is, ap (λ (x : List Line). x ++ more) parts ∙ append_assoc first others more)

pub answered_next : (mode : Mode) (before n : ℕ) (whole now next : Option (List ℕ)) (line : Line) (begun relay relay' : RelayState) (held mid after : Option (List ℕ))
    → HasAnswered mode before n whole now begun relay held mid → ReadsLine now line next
    → (out : List Line) × Answered mode relay line out relay' × Appends mid after (text_of out)
    → HasAnswered mode before (n + 1) whole next begun relay' held after
answered_next mode before n None now next line begun relay relay' held mid after h read is = tt
answered_next mode before n (Some input) now next line begun relay relay' held mid after (rest, e, front, out, same, number, answers, adds) read (more, is, wrote) =
    let r = subst (λ (o : Option (List ℕ)). ReadsLine o line next) e read in
    let size = length-append front (line ∷ []) in (
      r.0,
      r.1,
      front ++ line ∷ [],
      out ++ more,
      same ∙ ap (λ (l : List Line). front ++ l) r.2 ∙ sym (append_assoc front (line ∷ []) (lines r.0)),
      omega (arith, size, number),
      answer_more mode begun relay relay' front line out more answers is,
      subst (λ (l : List ℕ). Appends held after l) (sym (flat_map-append fed out more))
          (appends_more held mid after (text_of out) (text_of more) adds wrote),
    )

pub answered_end : (mode : Mode) (before n : ℕ) (whole now : Option (List ℕ)) (begun relay : RelayState) (held held' : Option (List ℕ))
    → HasAnswered mode before n whole now begun relay held held' → HasNoLine now
    → IfSome whole (λ input. RunsLines mode (suc before) begun (lines input) (Ok tt) held held')
answered_end mode before n None now begun relay held held' h none = tt
answered_end mode before n (Some input) now begun relay held held' (rest, e, front, out, same, number, answers, adds) none =
    let left = subst HasNoLine e none in
    let all = same ∙ ap (λ (l : List Line). front ++ l) left ∙ append-nil front in
    (out, relay, subst (λ (l : List Line). Answer mode begun l out relay) (sym all) answers, adds)

pub answered_bad : (mode : Mode) (before n : ℕ) (whole now next : Option (List ℕ)) (line : Line) (begun relay : RelayState) (held mid held' : Option (List ℕ))
    → HasAnswered mode before n whole now begun relay held mid → ReadsLine now line next → IsBad relay line → Keeps mid held'
    → IfSome whole (λ input. RunsLines mode (suc before) begun (lines input) (Err (BadLine n)) held held')
answered_bad mode before n None now next line begun relay held mid held' h read bad keeps = tt
answered_bad mode before n (Some input) now next line begun relay held mid held' (rest, e, front, out, same, number, answers, adds) read bad keeps =
    let r = subst (λ (o : Option (List ℕ)). ReadsLine o line next) e read in (
      front,
      lines r.0,
      line,
      out,
      relay,
      same ∙ ap (λ (l : List Line). front ++ l) r.2,
      omega (arith, number),
      answers,
      bad,
      keeps_after held mid held' (text_of out) adds keeps,
    )

-- ---- the whole run

pub runs : (whole now : Option (List ℕ)) (mode : Mode) (count : ℕ) (table rows : List InterfaceRow) (begun : RelayState) (end : Result (Unit {0}) Stop)
    (held held' : Option (List ℕ)) → table ≡ table_with rows → FindsTable whole count mode rows now → IsAcceptedTable table → IsNewRelay mode table begun
    → IfSome now (λ input. RunsLines mode (suc count) begun (lines input) end held held') → IfSome whole (λ input. Runs (lines input) end held held')
runs None now mode count table rows begun end held held' is finds accepted begins h = tt
runs (Some input) now mode count table rows begun end held held' is (rest, e, has) accepted begins h =
    let good = subst IsAcceptedTable is accepted in
    let new = subst (λ (t : List InterfaceRow). IsNewRelay mode t begun) is begins in
    at end (subst (λ (o : Option (List ℕ)). IfSome o (λ xs. RunsLines mode (suc count) begun (lines xs) end held held')) e h) good new
  where
    at : (r : Result (Unit {0}) Stop) → RunsLines mode (suc count) begun (lines rest) r held held' → IsAcceptedTable (table_with rows)
        → IsNewRelay mode (table_with rows) begun → Runs (lines input) r held held'
    at (Ok done) h good new = (mode, rows, count, lines rest, begun, has, good, new, h)
    at (Err (BadLine n)) h good new = inl (mode, rows, count, lines rest, begun, has, good, new, h)
    at (Err (BadTable f)) h good new = absurd h
    at (Err Failed) h good new = tt

-- after a line that was answered nothing is made ready
pub ready_after : (mode : Mode) (before after : RelayState) (line : Line) (held held' : Option (List ℕ))
    → (out : List Line) × Answered mode before line out after × Appends held held' (text_of out) → HasNoneReady after
ready_after mode before after line held held' (out, (side, came, is, (taken, takes, serves)), adds) = serves.emptied.none_ready
