-- That something is served over each transport that answers, and over answers that are told, if they are such as suffice.
use Rattle.std.proofs.Common.{◌≡◌, ◌≢◌, ◌⊎◌, ℕ, zero, suc, ◌+◌, ◌*◌, ◌<◌, ◌≤◌, Bool, true, false, ◌||◌, List, [], ◌∷◌, ◌++◌, append_assoc, Option, None, Some, Result, Ok, Err, refl, sym, ap, subst, ◌∙◌, arith, length}
use Rattle.std.specs.Prelude.{MatchBool, nat_le}
use Rattle.std.proofs.lemmas.Bool.{cases_Bool, leb-true, leb-false}
use Rattle.std.proofs.lemmas.List.{length-drop, nil_from_length}
use mathlib.Core.Logic.{inl, inr}
use Rattle.wl_wire.specs.declared.argument.ArgumentType.{ArgumentType}
use Rattle.wl_wire.specs.declared.error.IoFault.{IoFault}
use Rattle.wl_wire.specs.declared.error.IoFault.TheVariants as fault
use Rattle.wl_wire.specs.Message.{WireMessage, size}
use Rattle.wl_link.proofs.Stretches.ArrivalLaws.{lacks_there}
use Rattle.wl_link.proofs.Calls.Branches.{map_bool}
use Rattle.wl_link.proofs.Readings.CuttingLaws.{carries_there, finds_more}
use Rattle.wl_link.specs.Exchange.{Chain, Queue, Sending, joined, nothing, AlwaysAnswers}
use Rattle.wl_link.proofs.Calls.FlushLaws.{FlushLeads, flush_done, flush_fails, flush_goes_on, flush_stops, some_bytes}
use Rattle.wl_link.proofs.Calls.Growth.{Doubled, doubled_again}
use Rattle.wl_link.proofs.Calls.LaterLaws.{other_reads}
use Rattle.wl_link.specs.Link.{Flushed, Grown, Grows, LinkState, Wants, Wrote, has_room, ignoring, left_of, needed, offer_of, spelled, with_outgoing, with_outgoing_capacity}
use Rattle.wl_link.specs.Puts.{FlushesOut, PutBy, PutsOut, Said, lacks_memory}
use Rattle.wl_link.proofs.Calls.QueueLaws.{joined_nothing}
use Rattle.wl_link.specs.Reader.{Given, ReaderState, Reader, ReadsAs, Verdict, came_to, put_and_gave}
use Rattle.wl_link.specs.Served.{Answers, Handles, NoneFits, Rests, Served, ServedFrom, Serves, ServesOne, TakesNext, AsTold, link_as, state_as}
use Rattle.wl_link.proofs.Readings.ServedLaws.{chain_told, answers_of}
use Rattle.wl_link.specs.Stretch.{IsOver}
use Rattle.wl_link.proofs.Readings.TotalLaws.{CarriedSo, GoesOnSo, always_served_so}
use Rattle.wl_link.specs.Total.{SomethingIsServed, EndsMalformed}
use Rattle.wl_link.proofs.Calls.WriteLaws.{placed_after, placed_failed, placed_full, wrote_placed, wrote_too_long}

-- ---- a storage that holds a byte can be doubled until it needs no more

less_or : (a b : ℕ) → (a < b) ⊎ (b ≤ a)
less_or a b = at (cases_Bool (nat_le b a))
  where
    at : (nat_le b a ≡ true) ⊎ (nat_le b a ≡ false) → (a < b) ⊎ (b ≤ a)
    at (inl is) = inr (leb-true b a is)
    at (inr is) = inl (leb-false b a is)

wanted_or : (limit : Option ℕ) (needed size : ℕ) → Wants limit needed size ⊎ (¬ (Wants limit needed size))
wanted_or None needed size = at (less_or size needed)
  where
    at : (size < needed) ⊎ (needed ≤ size) → (size < needed) ⊎ (¬ (size < needed))
    at (inl less) = inl less
    at (inr enough) = inr (λ less. absurd (omega (arith, less, enough)))
wanted_or (Some limit) needed size = at (less_or size needed) (less_or size limit)
  where
    at : (size < needed) ⊎ (needed ≤ size) → (size < limit) ⊎ (limit ≤ size) → ((size < needed) × (size < limit)) ⊎ (¬ ((size < needed) × (size < limit)))
    at (inl less) (inl under) = inl (less, under)
    at (inl less) (inr full) = inr (λ wants. absurd (omega (arith, wants.1, full)))
    at (inr enough) under = inr (λ wants. absurd (omega (arith, wants.0, enough)))

wants_less : (limit : Option ℕ) (needed size : ℕ) → Wants limit needed size → size < needed
wants_less None needed size wants = wants
wants_less (Some limit) needed size wants = wants.0

record GrowsSo (limit : Option ℕ) (needed size : ℕ) : Type 0 where
  to : ℕ
  grows : Grows limit needed size to
  holds : 0 < to

module _ (limit : Option ℕ) (needed size : ℕ) where
  grown_to : (now : ℕ) → Doubled limit needed size now → 0 < now → ¬ (Wants limit needed now) → GrowsSo limit needed size
  grown_to now doubled holds enough = record {
    to = now;
    grows = record { times = doubled.times; grown = doubled.grown; wanted = doubled.wanted; enough = enough };
    holds = holds;
  }

  grown_from : (n now : ℕ) → Doubled limit needed size now → 0 < now → needed ≤ now + n → GrowsSo limit needed size
  grown_from zero now doubled holds fits =
      grown_to now doubled holds (λ wants. let less = wants_less limit needed now wants in absurd (omega (arith, less, fits)))
  grown_from (suc n) now doubled holds fits =
      at (wanted_or limit needed now)
      (λ wants. grown_from n (now * 2) (doubled_again limit needed size now (now * 2) doubled wants refl) (omega (arith, holds)) (omega (arith, holds, fits)))
    where
      at : Wants limit needed now ⊎ (¬ (Wants limit needed now)) → (Wants limit needed now → GrowsSo limit needed size) → GrowsSo limit needed size
      at (inl wants) on = on wants
      at (inr enough) on = grown_to now doubled holds enough

  grown_so : 0 < size → GrowsSo limit needed size
  grown_so holds =
      grown_from needed size (record { times = 0; grown = omega arith; wanted = λ k lt. absurd (omega arith) }) holds (omega arith)

-- ---- a write, and the puts and the flush of a verdict

not_lacking : (f : IoFault) → (◌≡◌ {A = Result ℕ IoFault} (Err f) (Err fault.OutOfMemory) → ⊥) → lacks_memory (Err f) ≡ false
not_lacking fault.OutOfMemory calm = absurd (calm refl)
not_lacking _ calm = refl

still_ample : (r : Result (Unit {0}) IoFault) → lacks_memory r ≡ false → lacks_memory (ignoring r) ≡ false
still_ample (Ok u) ample = refl
still_ample (Err fault.WouldBlock) ample = refl
still_ample (Err f) ample = ample

module _ {S : Type 0} (sends : S → Queue → Result ℕ IoFault → S → Type 0) where
  -- what waits to be read, and the storage, stay
  abbrev Stays : LinkState S → LinkState S → Type 0
  Stays l k = (k.incoming ≡ l.incoming) × (k.outgoing_capacity ≡ l.outgoing_capacity)

  record FlushEnds (l : LinkState S) : Type 0 where
    answer : Result (Unit {0}) IoFault
    after : LinkState S
    flushed : Flushed sends l answer after
    ample : lacks_memory answer ≡ false
    stays : Stays l after

  record Written (l : LinkState S) (m : WireMessage) : Type 0 where
    answer : Result (Unit {0}) IoFault
    after : LinkState S
    wrote : Wrote sends l m answer after
    ample : lacks_memory answer ≡ false
    waits : after.incoming ≡ l.incoming
    holds : 0 < after.outgoing_capacity

  record PutAll (l : LinkState S) (ms : List Said) : Type 0 where
    sent : List Sending
    put : List Said
    answer : Result (Unit {0}) IoFault
    after : LinkState S
    puts : PutsOut sends l ms sent put answer after
    ample : lacks_memory answer ≡ false
    waits : after.incoming ≡ l.incoming
    holds : 0 < after.outgoing_capacity

  record FlushedOut (flushes : Bool) (l : LinkState S) : Type 0 where
    sent : List Sending
    after : LinkState S
    by : FlushesOut sends flushes l sent false after
    stays : Stays l after

  module _ (answers : AlwaysAnswers sends) where
    flush_from : (l : LinkState S) (n : ℕ) (now : LinkState S) → FlushLeads sends l now → Stays l now → length now.outgoing.bytes < n → FlushEnds l
    flush_from l zero now leads stays less = absurd (omega (arith, less))
    flush_from l (suc n) now leads stays less =
        at (length now.outgoing.bytes) refl (λ next leads' stays' fewer. flush_from l n next leads' stays' fewer)
      where
        one : (k : ℕ) → length now.outgoing.bytes ≡ suc k → (answer : Result ℕ IoFault) (t : S) → sends now.transport (offer_of now.outgoing) answer t
            → answer ≢ Err fault.OutOfMemory
            → ((next : LinkState S) → FlushLeads sends l next → Stays l next → length next.outgoing.bytes < n → FlushEnds l) → FlushEnds l
        one k is (Err f) t sent calm on = record {
          answer = Err f;
          after = with_outgoing now t now.outgoing;
          flushed = flush_fails sends l now f t leads (some_bytes now.outgoing.bytes (suc k) (sym is) (omega arith)) sent;
          ample = not_lacking f calm;
          stays = stays;
        }
        one k is (Ok zero) t sent calm on = record {
          answer = Ok tt;
          after = with_outgoing now t (left_of 0 now.outgoing);
          flushed = flush_stops sends l now t leads (some_bytes now.outgoing.bytes (suc k) (sym is) (omega arith)) sent;
          ample = refl;
          stays = stays;
        }
        one k is (Ok (suc taken)) t sent calm on =
            on (with_outgoing now t (left_of (suc taken) now.outgoing))
            (flush_goes_on sends l now (suc taken) t leads (some_bytes now.outgoing.bytes (suc k) (sym is) (omega arith)) (λ none. absurd (omega (arith, none))) sent)
            stays
            (omega (arith, less, is, length-drop (suc taken) now.outgoing.bytes))

        at : (k : ℕ) → length now.outgoing.bytes ≡ k
            → ((next : LinkState S) → FlushLeads sends l next → Stays l next → length next.outgoing.bytes < n → FlushEnds l) → FlushEnds l
        at zero is on = record {
          answer = Ok tt;
          after = now;
          flushed = flush_done sends l now leads (nil_from_length now.outgoing.bytes is);
          ample = refl;
          stays = stays;
        }
        at (suc k) is on =
            let (answer, t, sent, calm) = answers now.transport (offer_of now.outgoing) in
            one k is answer t sent calm on

    flush_ends : (l : LinkState S) → FlushEnds l
    flush_ends l = flush_from l (length l.outgoing.bytes + 1) l (record { on = λ answer after f. f }) (refl, refl) (omega arith)

    -- a message for which the storage was grown
    write_in : (l grown : LinkState S) (m : WireMessage) → size m ≤ 65535 → Grown l (size m) grown → grown.incoming ≡ l.incoming → 0 < grown.outgoing_capacity → Written l m
    write_in l grown m small grows waits holds = at (cases_Bool (has_room grown (size m)))
      where
        flushed : has_room grown (size m) ≡ false → (f : FlushEnds grown) → (r : Result (Unit {0}) IoFault) → ignoring f.answer ≡ r
            → (has_room f.after (size m) ≡ true) ⊎ (has_room f.after (size m) ≡ false) → Written l m
        flushed full f (Err e) is room = record {
          answer = Err e;
          after = f.after;
          wrote = wrote_placed sends l f.after m (Err e) grown small grows (placed_failed sends grown f.after f.after m f.answer full f.flushed e (sym is));
          ample = ap lacks_memory (sym is) ∙ still_ample f.answer f.ample;
          waits = f.stays.0 ∙ waits;
          holds = subst (λ (n : ℕ). 0 < n) (sym f.stays.1) holds;
        }
        flushed full f (Ok u) is (inl room) = record {
          answer = Ok tt;
          after = with_outgoing f.after f.after.transport (joined f.after.outgoing (spelled m));
          wrote =
              wrote_placed sends l (with_outgoing f.after f.after.transport (joined f.after.outgoing (spelled m))) m (Ok tt) grown small grows
              (placed_after sends grown f.after (with_outgoing f.after f.after.transport (joined f.after.outgoing (spelled m))) m f.answer full f.flushed u (Ok tt) (sym is) room (inl (refl, refl)));
          ample = refl;
          waits = f.stays.0 ∙ waits;
          holds = subst (λ (n : ℕ). 0 < n) (sym f.stays.1) holds;
        }
        flushed full f (Ok u) is (inr still_full) = record {
          answer = Err fault.TooBig;
          after = f.after;
          wrote = wrote_placed sends l f.after m (Err fault.TooBig) grown small grows (placed_full sends grown f.after f.after m f.answer full f.flushed u (sym is) still_full);
          ample = refl;
          waits = f.stays.0 ∙ waits;
          holds = subst (λ (n : ℕ). 0 < n) (sym f.stays.1) holds;
        }

        at : (has_room grown (size m) ≡ true) ⊎ (has_room grown (size m) ≡ false) → Written l m
        at (inl room) = record {
          answer = Ok tt;
          after = with_outgoing grown grown.transport (joined grown.outgoing (spelled m));
          wrote =
              wrote_placed sends l (with_outgoing grown grown.transport (joined grown.outgoing (spelled m))) m (Ok tt) grown small grows
              ([], rw room (refl, inl (refl, refl)));
          ample = refl;
          waits = waits;
          holds = holds;
        }
        at (inr full) =
            let f = flush_ends grown in
            flushed full f (ignoring f.answer) refl (cases_Bool (has_room f.after (size m)))

    write : (l : LinkState S) (m : WireMessage) → 0 < l.outgoing_capacity → Written l m
    write l m holds = at (cases_Bool (nat_le (size m) 65535))
      where
        at : (nat_le (size m) 65535 ≡ true) ⊎ (nat_le (size m) 65535 ≡ false) → Written l m
        at (inl small) =
            let g = grown_so l.limit (needed l (size m)) l.outgoing_capacity holds in
            write_in l (with_outgoing_capacity l g.to) m (leb-true (size m) 65535 small) (g.grows, refl) refl g.holds
        at (inr long) = record {
          answer = Err fault.TooBig;
          after = l;
          wrote = wrote_too_long sends l l m (Err fault.TooBig) (leb-false (size m) 65535 long) refl refl;
          ample = refl;
          waits = refl;
          holds = holds;
        }

    put_more : (l : LinkState S) (m : Said) (ms : List Said) (w : Written l m.message) → ((k : LinkState S) → 0 < k.outgoing_capacity → PutAll k ms) → PutAll l (m ∷ ms)
    put_more l m ms w on = at w.answer refl
      where
        by : (r : Result (Unit {0}) IoFault) → w.answer ≡ r → PutBy sends l m w.wrote.0 r w.after
        by r is = subst (λ (x : Result (Unit {0}) IoFault). PutBy sends l m w.wrote.0 x w.after) is (inl w.wrote.1)

        at : (r : Result (Unit {0}) IoFault) → w.answer ≡ r → PutAll l (m ∷ ms)
        at (Ok u) is =
            let more = on w.after w.holds in record {
              sent = w.wrote.0 ++ more.sent;
              put = m ∷ more.put;
              answer = more.answer;
              after = more.after;
              puts = (w.wrote.0, Ok u, w.after, by (Ok u) is, (more.sent, more.put, refl, refl, more.puts));
              ample = more.ample;
              waits = more.waits ∙ w.waits;
              holds = more.holds;
            }
        at (Err f) is = record {
          sent = w.wrote.0;
          put = [];
          answer = Err f;
          after = w.after;
          puts = (w.wrote.0, Err f, w.after, by (Err f) is, (refl, refl, refl, refl));
          ample = ap lacks_memory (sym is) ∙ w.ample;
          waits = w.waits;
          holds = w.holds;
        }

    put_all : (ms : List Said) (l : LinkState S) → 0 < l.outgoing_capacity → PutAll l ms
    put_all [] l holds = record { sent = []; put = []; answer = Ok tt; after = l; puts = (refl, refl, refl, refl); ample = refl; waits = refl; holds = holds }
    put_all (m ∷ ms) l holds = put_more l m ms (write l m.message holds) (λ k holds'. put_all ms k holds')

    flush_out : (flushes : Bool) (l : LinkState S) → FlushedOut flushes l
    flush_out true l = let f = flush_ends l in record { sent = f.flushed.0; after = f.after; by = (f.answer, f.flushed.1, sym f.ample); stays = f.stays }
    flush_out false l = record { sent = []; after = l; by = (refl, refl, refl); stays = (refl, refl) }

    -- ---- a verdict, and what is served

    module _ {Core Event Finish : Type 0} (reader : Reader Core Event Finish) where
      abbrev Holds : LinkState S → Type 0
      Holds l = 0 < l.outgoing_capacity

      record CarriedTo (v : Verdict Core Event) (link : LinkState S) : Type 0 where
        so : CarriedSo sends reader Holds v link
        wrote : Result (Unit {0}) IoFault
        core : so.carried.after.core ≡ came_to reader v wrote

      carry : (v : Verdict Core Event) (link : LinkState S) → Holds link → CarriedTo v link
      carry v link holds =
          let p = put_all v.puts link holds in
          let f = flush_out v.flushes p.after in
          let core = came_to reader v p.answer in record {
            so = record {
              carried = record {
                sent = p.sent ++ f.sent;
                gave = put_and_gave p.put (v.events core);
                after = record { core = core; link = f.after };
                carried = inl (p.sent, f.sent, p.put, p.answer, p.after, false, p.puts, f.by, refl, refl, refl, sym (ap (λ (b : Bool). b || false) p.ample));
                waits = f.stays.0 ∙ p.waits;
              };
              holds = subst (λ (n : ℕ). 0 < n) (sym f.stays.1) p.holds;
            };
            wrote = p.answer;
            core = refl;
          }

      read_holds : (p : ReaderState S Core) (m : WireMessage) (link : LinkState S) → ReadsAs sends reader p (Ok m) link → Holds p.link → Holds link
      read_holds p m link read holds =
          let looks = λ (sender : ℕ) (opcode : ℕ) (found : Option (List ArgumentType)). found ≡ reader.signature p.core sender opcode in
          let r = other_reads looks p.link (link_as p.link nothing p.link.transport) nothing refl m link read in
          subst (λ (n : ℕ). 0 < n) (sym (ap (λ (l : LinkState S). l.outgoing_capacity) r.0)) holds

      goes_on : EndsMalformed reader → GoesOnSo sends reader Holds
      goes_on ends = record {
        reads = read_holds;
        handles = λ c m link holds. (carry (reader.handles c m) link holds).so;
        malformed = λ c u link holds. (carry (reader.malformed c u) link holds).so;
        over = λ c u link holds. (
            let k = carry (reader.malformed c u) link holds in
            subst (λ (d : Core). IsOver reader d) (sym k.core) (ends c u k.wrote)
            );
        takes = λ c u v link takes holds. (carry v link holds).so;
      }

      -- over a transport that answers, where the storage holds a byte, something is served
      pub served_answering : EndsMalformed reader → (p : ReaderState S Core) (finishes : List Finish) → 0 < p.link.outgoing_capacity → SomethingIsServed sends reader p finishes
      served_answering ends p finishes holds = always_served_so sends reader Holds (goes_on ends) p finishes holds

-- ---- what is served over a transport is served over its answers, where they are told

module _ {S Core Event Finish : Type 0} (sends : S → Queue → Result ℕ IoFault → S → Type 0) (reader : Reader Core Event Finish) where
  abbrev TurnTold : ReaderState S Core → ReaderState S Core → List Finish → List Finish → List (Given Event) → Bool → Type 0
  TurnTold p mid finishes between gave b =
      (es : List Sending)
      × ((t u : Answers) → Chain AsTold t es u
      → MatchBool b (Handles AsTold reader (state_as p nothing t) gave false (state_as mid nothing u) × (between ≡ finishes))
      (TakesNext AsTold reader (state_as p nothing t) finishes gave (state_as mid nothing u) between))

  turn_told : (p mid : ReaderState S Core) (finishes between : List Finish) (gave : List (Given Event)) → ServesOne sends reader p finishes gave mid between
      → TurnTold p mid finishes between gave (reader.reads_on p.core)
  turn_told p mid finishes between gave one = at (reader.reads_on p.core) one
    where
      ended : (fs : List Finish) → TakesNext sends reader p fs gave mid between
          → (es : List Sending) × ((t u : Answers) → Chain AsTold t es u → TakesNext AsTold reader (state_as p nothing t) fs gave (state_as mid nothing u) between)
      ended [] none = absurd none
      ended (f ∷ fs) (es, (v, takes, carried), left) =
          (es, λ t u chain. (es, (v, takes, carries_there sends AsTold nothing reader v p.link mid es gave false t u chain carried), left))

      at : (b : Bool) → MatchBool b (Handles sends reader p gave false mid × (between ≡ finishes)) (TakesNext sends reader p finishes gave mid between)
          → TurnTold p mid finishes between gave b
      at true ((v, link, es, finds, carried), left) = (
        es,
        λ t u chain. (
          (v, link_as link nothing t, es, finds_more sends AsTold reader p v link nothing t finds, carries_there sends AsTold nothing reader v link mid es gave false t u chain carried),
          left,
        ),
      )
      at false takes = ended finishes takes

  serves_told : (n : ℕ) (p after : ReaderState S Core) (finishes left : List Finish) (gave : List (Given Event)) → Serves sends reader n p finishes gave after left
      → (answers : Answers) × ((later : Answers) → Serves AsTold reader n (state_as p nothing (answers ++ later)) finishes gave (state_as after nothing later) left)
  serves_told zero p after finishes left gave (none, same, kept) = ([], λ later. (none, ap (λ (x : ReaderState S Core). state_as x nothing later) same, kept))
  serves_told (suc n) p after finishes left gave (first, others, mid, between, one, split, rest) =
      let t = turn_told p mid finishes between first one in
      let r = serves_told n mid after between left others rest in (
        answers_of t.0 ++ r.0,
        λ later. (
          first,
          others,
          state_as mid nothing (r.0 ++ later),
          between,
          subst (λ (told : Answers). ServesOne AsTold reader (state_as p nothing told) finishes first (state_as mid nothing (r.0 ++ later)) between)
              (sym (append_assoc (answers_of t.0) r.0 later)) (t.1 (answers_of t.0 ++ (r.0 ++ later)) (r.0 ++ later) (chain_told t.0 (r.0 ++ later))),
          split,
          r.1 later,
        ),
      )

  none_told : (core : Core) (finishes : List Finish) → NoneFits sends reader core finishes → NoneFits AsTold reader core finishes
  none_told core [] none = tt
  none_told core (u ∷ finishes) none = none

  pub served_told : (p after : ReaderState S Core) (finishes : List Finish) (gave : List (Given Event)) → ServedFrom sends reader p finishes gave after
      → (answers : Answers) × ServedFrom AsTold reader (state_as p nothing answers) finishes gave (state_as after nothing [])
  served_told p after finishes gave served =
      let r = serves_told served.count p after finishes served.left gave served.serves in
      let rests : Rests AsTold reader (state_as after nothing []) served.left
      = map_bool (reader.reads_on after.core)
      (λ lacks. lacks_there sends AsTold reader after (link_as after.link nothing []) (joined_nothing after.link.incoming) lacks)
      (λ none. none_told after.core served.left none) served.rests in
      (r.0 ++ [], record { count = served.count; left = served.left; serves = r.1 []; rests = rests })

-- the transport to which nothing can be sent now
abbrev blocked : Unit {0} → Queue → Result ℕ IoFault → Unit {0} → Type 0
blocked before offer answer after = answer ≡ Err fault.WouldBlock

-- Something is served of whatever waits, with answers that suffice.
pub some_answered : {T Core Event Finish : Type 0} (reader : Reader Core Event Finish) → EndsMalformed reader → (p : ReaderState T Core) (more : Queue) (finishes : List Finish)
    → 0 < p.link.outgoing_capacity → (answers : Answers) × (gave : List (Given Event)) × (after : ReaderState Answers Core) × Served AsTold reader p more answers finishes gave after
some_answered {Core = Core} reader ends p more finishes holds =
    let (gave, after, served) = served_answering blocked always reader ends (state_as p more tt) finishes holds in
    let (answers, told) = served_told blocked reader (state_as p more tt) after finishes gave served in
    let over : Queue → ReaderState Answers Core = λ q. record {
      core = p.core;
      link = record { transport = answers; incoming = q; incoming_capacity = 0; outgoing = p.link.outgoing; outgoing_capacity = p.link.outgoing_capacity; limit = p.link.limit };
    } in
    let is : over (joined (joined p.link.incoming more) nothing) ≡ over (joined p.link.incoming more) = ap over (joined_nothing (joined p.link.incoming more)) in
    (answers, gave, state_as after nothing [], subst (λ (x : ReaderState Answers Core). ServedFrom AsTold reader x finishes gave (state_as after nothing [])) is told)
  where
    always : AlwaysAnswers blocked
    always t offer = (Err fault.WouldBlock, tt, refl, λ same. absurd cc)
