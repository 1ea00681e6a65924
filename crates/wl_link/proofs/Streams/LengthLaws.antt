-- That each message is no longer than the incoming storage may become, wherever in a stretch it comes to the front.
use Rattle.std.proofs.Common.{◌≡◌, ◌≢◌, ◌<◌, ◌≤◌, ℕ, zero, suc, Bool, true, false, List, [], ◌∷◌, ◌++◌, append_assoc, append-nil, length, drop, Option, Some, Result, Ok, Err, is_ok, MatchResult, refl, sym, ap, subst, ◌∙◌, true≢false, arith, cond, eqb}
use Rattle.std.specs.Prelude.{nat_le}
use Rattle.std.proofs.lemmas.Bool.{eqb-true}
use Rattle.std.proofs.lemmas.List.{length-append, nil_from_length}
use mathlib.Core.Logic.{inl, inr}
use Rattle.wl_wire.specs.declared.argument.ArgumentType.{ArgumentType}
use Rattle.wl_wire.specs.declared.error.IoFault.{IoFault}
use Rattle.wl_wire.specs.declared.error.IoFault.TheVariants as fault
use Rattle.wl_wire.proofs.Spelling.FrontLaws.{behind_front, length_front, whole_front}
use Rattle.wl_wire.specs.Message.{WireMessage, size}
use Rattle.wl_wire.specs.Parse.{IsWhole, length_of}
use Rattle.wl_link.proofs.Calls.Branches.{either_bool, either_result}
use Rattle.wl_link.specs.Exchange.{Queue, Sending, joined, nothing}
use Rattle.wl_link.specs.Link.{IsAfter, EachWithin, FilledBy, FindsRoom, FlushedBy, FrontFits, LacksBytes, LinkState, PlacedBy, Put, ReadOne, WroteBy, count_of, counted_answer, has_room, ignoring, incoming_limit}
use Rattle.wl_link.specs.Puts.{FlushesOut, PutBy, PutsOut, Said, lacks_memory}
use Rattle.wl_link.proofs.Readings.PutsLaws.{not_lacked}
use Rattle.wl_link.proofs.Calls.QueueLaws.{joined_assoc, joined_nothing}
use Rattle.wl_link.specs.Reader.{CarriesOut, Given, Gives, Handled, ReaderState, Reader, Reads, Received, Turn, Unread, Verdict, came_by, received_in, stops, with_link}
use Rattle.wl_link.specs.Script.{Script, ScriptReceives, ScriptSends, given}
use Rattle.wl_link.specs.Served.{Finds}
use Rattle.wl_link.proofs.Readings.ServedLaws.{both_false}
use Rattle.wl_link.proofs.Stretches.ArrivalLaws.{first_came, left_over_more}
use Rattle.wl_link.proofs.Calls.LaterLaws.{other_reads}
use Rattle.wl_link.proofs.Stretches.SendingLaws.{carries_send}
use Rattle.wl_link.proofs.Streams.StreamLaws.{read_left}
use Rattle.wl_link.specs.Stretch.{Act, Arrived, Does, DoesAll, HasEnded, HasRead, IsStretch, IsStretchWithin, arrivals_of, arrived, arrived_by, left_over}

-- ---- what sends keep

module _ {T : Type 0} (sends : T → Queue → Result ℕ IoFault → T → Type 0) where
  pub record Stays (before after : LinkState T) : Type 0 where
    pub incoming : after.incoming ≡ before.incoming
    pub limit : after.limit ≡ before.limit

  stays_same : (before after : LinkState T) → after ≡ before → Stays before after
  stays_same before after same = record { incoming = ap (λ (l : LinkState T). l.incoming) same; limit = ap (λ (l : LinkState T). l.limit) same }

  stays_both : (before mid after : LinkState T) → Stays before mid → Stays mid after → Stays before after
  stays_both before mid after one two = record { incoming = two.incoming ∙ one.incoming; limit = two.limit ∙ one.limit }

  flush_stays : (before after : LinkState T) (es : List Sending) (answer : Result (Unit {0}) IoFault) → FlushedBy sends before es answer after → Stays before after
  flush_stays before after es answer h = record { incoming = ap (λ (l : LinkState T). l.incoming) h.2; limit = ap (λ (l : LinkState T). l.limit) h.2 }

  put_stays : (before after : LinkState T) (m : WireMessage) (answer : Result (Unit {0}) IoFault) → Put before m answer after → Stays before after
  put_stays before after m answer (inl (is, same)) = record { incoming = ap (λ (l : LinkState T). l.incoming) same; limit = ap (λ (l : LinkState T). l.limit) same }
  put_stays before after m answer (inr (is, same, some)) = stays_same before after same

  place_stays : (before after : LinkState T) (m : WireMessage) (es : List Sending) (answer : Result (Unit {0}) IoFault) → PlacedBy sends before m es answer after → Stays before after
  place_stays before after m es answer h =
      elim (either_bool (has_room before (size m)) h) [
        | inl (none, put) ↦ put_stays before after m answer put
        | inr (mid, flushed, flush, then') ↦
            let kept = flush_stays before mid es flushed flush in
            elim (either_result (ignoring flushed) then') [
              | inl (u, h') ↦
                  elim (either_bool (has_room mid (size m)) h') [
                    | inl put ↦ stays_both before mid after kept (put_stays mid after m answer put)
                    | inr (is, same) ↦ stays_both before mid after kept (stays_same mid after same)
                  ]
              | inr (f, (is, same)) ↦ stays_both before mid after kept (stays_same mid after same)
            ]
      ]

  write_stays : (before after : LinkState T) (m : WireMessage) (es : List Sending) (answer : Result (Unit {0}) IoFault) → WroteBy sends before m es answer after → Stays before after
  write_stays before after m es answer h =
      elim (either_bool (nat_le (size m) 65535) h) [
        | inl (inl (none, is, same, wants)) ↦ stays_same before after same
        | inl (inr (grown, (grows, same), placed)) ↦
            let from : Stays before grown = record { incoming = ap (λ (l : LinkState T). l.incoming) same; limit = ap (λ (l : LinkState T). l.limit) same } in
            stays_both before grown after from (place_stays grown after m es answer placed)
        | inr (none, is, same) ↦ stays_same before after same
      ]

  put_by_stays : (before after : LinkState T) (m : Said) (es : List Sending) (answer : Result (Unit {0}) IoFault) → PutBy sends before m es answer after → Stays before after
  put_by_stays before after m es answer (inl wrote) = write_stays before after m.message es answer wrote
  put_by_stays before after m es answer (inr (none, is, same, text)) = stays_same before after same

  puts_stay : (ms : List Said) (before after : LinkState T) (es : List Sending) (put : List Said) (answer : Result (Unit {0}) IoFault)
      → PutsOut sends before ms es put answer after → Stays before after
  puts_stay [] before after es put answer (none, nothing', is, same) = stays_same before after same
  puts_stay (m ∷ ms) before after es put answer (first, Ok u, mid, one, (others, rest, split, is, puts)) =
      stays_both before mid after (put_by_stays before mid m first (Ok u) one) (puts_stay ms mid after others rest answer puts)
  puts_stay (m ∷ ms) before after es put answer (first, Err f, mid, one, (split, none, is, same)) =
      stays_both before mid after (put_by_stays before mid m first (Err f) one) (stays_same mid after same)

  flushes_stay : (flushes lacked : Bool) (before after : LinkState T) (es : List Sending) → FlushesOut sends flushes before es lacked after → Stays before after
  flushes_stay flushes lacked before after es h =
      elim (either_bool flushes h) [
        | inl (answer, flush, is) ↦ flush_stays before after es answer flush
        | inr (none, same, is) ↦ stays_same before after same
      ]

  -- a verdict that is carried out leaves what waits to be read
  pub carries_stays : {Core Event Finish : Type 0} (reader : Reader Core Event Finish) (v : Verdict Core Event) (before : LinkState T) (after : ReaderState T Core) (es : List Sending)
      (gave : List (Given Event)) (refused : Bool) → CarriesOut sends reader v before es gave refused after → Stays before after.link
  carries_stays reader v before after es gave refused (inl (first, others, put, wrote, mid, lacked, puts, flushes, split, end, is, was)) =
      stays_both before mid after.link (puts_stay v.puts before mid first put wrote puts) (flushes_stay v.flushes lacked mid after.link others flushes)
  carries_stays reader v before after es gave refused (inr (asks, was, none, is, same)) =
      stays_same before after.link (ap (λ (x : ReaderState T _). x.link) same)

-- ---- messages off the front

behind_joins : (n m : ℕ) (a b c : List ℕ) → IsAfter n a b → IsAfter m b c → (k : ℕ) × IsAfter k a c
behind_joins zero m a b c same rest = (m, subst (λ (x : List ℕ). IsAfter m x c) same rest)
behind_joins (suc n) m a b c (whole, more) rest =
    let r = behind_joins n m (drop (length_of a) a) b c more rest in
    (suc r.0, (whole, r.1))

-- what is behind messages that are so long
pub each_later : {most : ℕ} (n : ℕ) (a b : List ℕ) → EachWithin most a → IsAfter n a b → EachWithin most b
each_later n a b each behind m rest further = let j = behind_joins n m a b rest behind further in each j.0 rest j.1

pub each_fits : {T : Type 0} (l : LinkState T) (limit : Option ℕ) (more : List ℕ) → l.limit ≡ limit → EachWithin (incoming_limit limit) (l.incoming.bytes ++ more) → FrontFits l
each_fits l limit more same each header =
    let within = each 0 (l.incoming.bytes ++ more) refl (omega (arith, header, length-append l.incoming.bytes more)) in
    omega (arith, within, length_front l.incoming.bytes more header, ap incoming_limit same)

-- this came behind what waits, and messages were taken off the front
pub record Flows {T : Type 0} (before after : LinkState T) (came : List ℕ) : Type 0 where
  pub limit : after.limit ≡ before.limit
  pub behind : (more : List ℕ) → (n : ℕ) × IsAfter n (before.incoming.bytes ++ (came ++ more)) (after.incoming.bytes ++ more)

module _ {T : Type 0} where
  flows_nothing : (before after : LinkState T) → after.incoming ≡ before.incoming → after.limit ≡ before.limit → Flows before after []
  flows_nothing before after incoming limit = record {
    limit = limit;
    behind = λ more. (zero, ap (λ (q : Queue). q.bytes ++ more) incoming);
  }

  flows_both : (before mid after : LinkState T) (x y : List ℕ) → Flows before mid x → Flows mid after y → Flows before after (x ++ y)
  flows_both before mid after x y one two = record {
    limit = two.limit ∙ one.limit;
    behind = λ more.
        let first = one.behind (y ++ more) in
        let second = two.behind more in
        let both = behind_joins first.0 second.0 (before.incoming.bytes ++ (x ++ (y ++ more))) (mid.incoming.bytes ++ (y ++ more)) (after.incoming.bytes ++ more) first.1 second.1 in
        (both.0, subst (λ (bs : List ℕ). IsAfter both.0 (before.incoming.bytes ++ bs) (after.incoming.bytes ++ more)) (sym (append_assoc x y more)) both.1);
  }

  pub flows_came : (receives : T → ℕ → Result Queue IoFault → T → Type 0) (before after : LinkState T) (r : Result Queue IoFault) (answer : Result (Unit {0}) IoFault)
      → FilledBy receives before r answer after → Flows before after (came_by r).bytes
  flows_came receives before after (Ok came) answer filled = record {
    limit = ap (λ (l : LinkState T). l.limit) filled.2;
    behind = λ more. (zero, ap (λ (l : LinkState T). l.incoming.bytes ++ more) filled.2 ∙ append_assoc before.incoming.bytes came.bytes more);
  }
  flows_came receives before after (Err f) answer filled =
      flows_nothing before after (ap (λ (l : LinkState T). l.incoming) filled.2) (ap (λ (l : LinkState T). l.limit) filled.2)

-- ---- what a receive that failed finds

count_blocks : (b : Bool) (f : IoFault) → ◌≡◌ {A = Result (Unit {0}) IoFault} (cond b (Err fault.Pipe) (Ok tt)) (Err f) → b ≡ true
count_blocks true f is = refl
count_blocks false f is = absurd (true≢false (ap is_ok is))

module _ {T : Type 0} (receives : T → ℕ → Result Queue IoFault → T → Type 0) (before after : LinkState T) where
  no_bytes_came : (r : Result Queue IoFault) (f : IoFault) → counted_answer (count_of r) ≡ Err f → FilledBy receives before r (counted_answer (count_of r)) after
      → after.incoming.bytes ≡ before.incoming.bytes
  no_bytes_came (Err g) f failed filled = ap (λ (l : LinkState T). l.incoming.bytes) filled.2
  no_bytes_came (Ok came) f failed filled =
      let none : came.bytes ≡ [] = nil_from_length came.bytes (eqb-true (length came.bytes) 0 (count_blocks (eqb (length came.bytes) 0) f failed)) in
      ap (λ (l : LinkState T). l.incoming.bytes) filled.2 ∙ ap (λ (bs : List ℕ). before.incoming.bytes ++ bs) none ∙ append-nil before.incoming.bytes

  -- the storage after it has a byte free too
  pub failed_finds : (r : Result Queue IoFault) (f : IoFault) → counted_answer (count_of r) ≡ Err f → FilledBy receives before r (counted_answer (count_of r)) after
      → FindsRoom before after.incoming_capacity → FindsRoom after after.incoming_capacity
  failed_finds r f failed filled finds lacks fits =
      let bytes = no_bytes_came r f failed filled in
      let limit : after.limit ≡ before.limit = ap (λ (l : LinkState T). l.limit) filled.2 in
      let fits' = subst (λ (bs : List ℕ). 8 ≤ length bs → length_of bs ≤ incoming_limit after.limit) bytes fits in
      let fits'' = subst (λ (m : Option ℕ). 8 ≤ length before.incoming.bytes → length_of before.incoming.bytes ≤ incoming_limit m) limit fits' in
      subst (λ (bs : List ℕ). length bs < after.incoming_capacity) (sym bytes) (finds (subst LacksBytes bytes lacks) fits'')

-- the message at the front was taken
pub flows_taken : {T : Type 0} (look_up : ℕ → ℕ → Option (List ArgumentType)) (before after : LinkState T) (m : WireMessage)
    → ReadOne (λ sender opcode found. found ≡ look_up sender opcode) before (Ok m) after → Flows before after []
flows_taken look_up before after m read =
    let bytes = before.incoming.bytes in
    let taken = read_left (λ t n r u. ⊥) look_up nothing before after m read in
    let whole : IsWhole bytes = taken.2.whole in
    let left : after.incoming.bytes ≡ drop (length_of bytes) bytes = ap (λ (q : Queue). q.bytes) taken.3 in
    let same = (other_reads (λ sender opcode f. f ≡ look_up sender opcode) before before nothing (sym (joined_nothing before.incoming)) m after read).0 in
    record {
      limit = ap (λ (l : LinkState _). l.limit) same;
      behind = λ more. (
        1,
        (
          whole_front bytes more whole,
          ap (λ (bs : List ℕ). bs ++ more) left ∙ sym (behind_front bytes more whole.header whole.there),
        ),
      );
    }

module _ {T Core Event Finish : Type 0} (sends : T → Queue → Result ℕ IoFault → T → Type 0) (receives : T → ℕ → Result Queue IoFault → T → Type 0)
    (reader : Reader Core Event Finish) where
  flows_found : (p : ReaderState T Core) (v : Verdict Core Event) (link : LinkState T) → Finds sends reader p v link → Flows p.link link []
  flows_found p v link (inl (m, read, is)) = flows_taken (reader.signature p.core) p.link link m read
  flows_found p v link (inr (malformed, same, is)) = flows_nothing p.link link (ap (λ (l : LinkState T). l.incoming) same) (ap (λ (l : LinkState T). l.limit) same)

  flows_heard : (p mid : ReaderState T Core) (v : Verdict Core Event) (link : LinkState T) (es : List Sending) (gave : List (Given Event)) (lacked : Bool)
      → Finds sends reader p v link → CarriesOut sends reader v link es gave lacked mid → Flows p.link mid.link []
  flows_heard p mid v link es gave lacked found carried =
      let kept = carries_stays sends reader v link mid es gave lacked carried in
      flows_both p.link link mid.link [] [] (flows_found p v link found) (flows_nothing link mid.link kept.incoming kept.limit)

  reads_flow : (left : ℕ) (p after : ReaderState T Core) (turns : List Turn) (out : Gives Event) → Reads sends reader receives left p turns out after
      → Flows p.link after.link (received_in turns).bytes
  reads_flow left p after [] out (same, ends) =
      flows_nothing p.link after.link (ap (λ (x : ReaderState T Core). x.link.incoming) same) (ap (λ (x : ReaderState T Core). x.link.limit) same)
  reads_flow left p after (Received r ∷ turns) out (on, lacks, (n, is, (link, filled, finds, h))) =
      flows_both p.link link after.link (came_by r).bytes (received_in turns).bytes (flows_came receives p.link link r (counted_answer (count_of r)) filled)
      (go (counted_answer (count_of r)) h (λ more. reads_flow n (with_link p link) after turns out more))
    where
      go : (c : Result (Unit {0}) IoFault)
          → MatchResult c (λ _. Reads sends reader receives n (with_link p link) turns out after)
          (λ f. (turns ≡ []) × (out ≡ stops (Some f) (lacks_memory (Err f)) n) × (after ≡ record { core = reader.faulted p.core f; link = link }))
          → (Reads sends reader receives n (with_link p link) turns out after → Flows link after.link (received_in turns).bytes) → Flows link after.link (received_in turns).bytes
      go (Ok u) more goes = goes more
      go (Err f) (none, ends, same) goes =
          subst (λ (ts : List Turn). Flows link after.link (received_in ts).bytes) (sym none)
          (flows_nothing link after.link (ap (λ (x : ReaderState T Core). x.link.incoming) same) (ap (λ (x : ReaderState T Core). x.link.limit) same))
  reads_flow left p after (Handled es ∷ turns) out (on, (v, link, first, lacked, mid, rest, found, carried, split, more)) =
      flows_both p.link mid.link after.link [] (received_in turns).bytes (flows_heard p mid v link es first lacked (inl found) carried) (reads_flow left mid after turns rest more)
  reads_flow left p after (Unread es ∷ turns) out (on, (v, link, first, lacked, mid, rest, found, carried, split, more)) =
      flows_both p.link mid.link after.link [] (received_in turns).bytes (flows_heard p mid v link es first lacked (inr found) carried) (reads_flow left mid after turns rest more)

-- ---- what a reading takes of the arrivals

receive_came : (before after : Script) (room : ℕ) (r : Result Queue IoFault) → ScriptReceives before room r after → counted_answer (count_of r) ≢ Err fault.OutOfMemory
    → left_over before.arrivals ≡ joined (came_by r) (left_over after.arrivals)
receive_came before after room r (inr (is, same, some)) memory = absurd (memory (ap (λ (z : Result Queue IoFault). counted_answer (count_of z)) is))
receive_came before after zero r (inl (few, is, same)) memory =
    ap (λ (s : Script). left_over s.arrivals) (sym same) ∙ ap (λ (z : Result Queue IoFault). joined (came_by z) (left_over after.arrivals)) (sym is)
receive_came before after (suc n) r (inl (few, is, same)) memory =
    first_came n before.arrivals ∙ ap (λ (s : Script). joined (came_by (given before.arrivals (suc n))) (left_over s.arrivals)) (sym same)
    ∙ ap (λ (z : Result Queue IoFault). joined (came_by z) (left_over after.arrivals)) (sym is)

module _ {Core Event Finish : Type 0} (reader : Reader Core Event Finish) where
  abbrev left_of : ReaderState Script Core → Queue
  left_of p = left_over (arrivals_of p)

  found_same : (p : ReaderState Script Core) (v : Verdict Core Event) (link : LinkState Script) → Finds ScriptSends reader p v link → link.transport ≡ p.link.transport
  found_same p v link (inl (m, read, is)) =
      ap (λ (l : LinkState Script). l.transport)
      (other_reads (λ sender opcode f. f ≡ reader.signature p.core sender opcode) p.link p.link nothing (sym (joined_nothing p.link.incoming)) m link read).0
  found_same p v link (inr (malformed, same, is)) = ap (λ (l : LinkState Script). l.transport) same

  heard_left : (p mid : ReaderState Script Core) (v : Verdict Core Event) (link : LinkState Script) (es : List Sending) (gave : List (Given Event)) (lacked : Bool)
      → Finds ScriptSends reader p v link → CarriesOut ScriptSends reader v link es gave lacked mid → left_of p ≡ left_of mid
  heard_left p mid v link es gave lacked found carried =
      ap (λ (s : Script). left_over s.arrivals) (sym (found_same p v link found)) ∙ ap left_over (sym (carries_send reader v link mid es gave lacked carried).arrivals)

  reads_came : (left : ℕ) (p after : ReaderState Script Core) (turns : List Turn) (out : Gives Event) → out.refused ≡ false → Reads ScriptSends reader ScriptReceives left p turns out after
      → left_of p ≡ joined (received_in turns) (left_of after)
  reads_came left p after [] out ample (same, ends) = ap left_of (sym same)
  reads_came left p after (Received r ∷ turns) out ample (on, lacks, (n, is, (link, filled, finds, h))) =
      let rest = go (counted_answer (count_of r)) h (λ more. reads_came n (with_link p link) after turns out ample more) in
      receive_came p.link.transport link.transport _ r filled.0 rest.0
      ∙ ap (joined (came_by r)) rest.1 ∙ sym (joined_assoc (came_by r) (received_in turns) (left_of after))
    where
      go : (c : Result (Unit {0}) IoFault)
          → MatchResult c (λ _. Reads ScriptSends reader ScriptReceives n (with_link p link) turns out after)
          (λ f. (turns ≡ []) × (out ≡ stops (Some f) (lacks_memory (Err f)) n) × (after ≡ record { core = reader.faulted p.core f; link = link }))
          → (Reads ScriptSends reader ScriptReceives n (with_link p link) turns out after → left_over link.transport.arrivals ≡ joined (received_in turns) (left_of after))
          → (c ≢ Err fault.OutOfMemory) × (left_over link.transport.arrivals ≡ joined (received_in turns) (left_of after))
      go (Ok u) more goes = (λ refused. true≢false (ap is_ok refused), goes more)
      go (Err f) (none, ends, same) goes = (
        not_lacked (Err f) (sym (ap (λ (o : Gives Event). o.refused) ends) ∙ ample),
        ap left_of (sym same) ∙ ap (λ (ts : List Turn). joined (received_in ts) (left_of after)) (sym none),
      )
  reads_came left p after (Handled es ∷ turns) out ample (on, (v, link, first, lacked, mid, rest, found, carried, split, more)) =
      heard_left p mid v link es first lacked (inl found) carried
      ∙ reads_came left mid after turns rest (both_false lacked rest.refused (sym ample ∙ ap (λ (o : Gives Event). o.refused) split)).1 more
  reads_came left p after (Unread es ∷ turns) out ample (on, (v, link, first, lacked, mid, rest, found, carried, split, more)) =
      heard_left p mid v link es first lacked (inr found) carried
      ∙ reads_came left mid after turns rest (both_false lacked rest.refused (sym ample ∙ ap (λ (o : Gives Event). o.refused) split)).1 more

  -- ---- acts

  -- what is left of all that waits, is to come, and then comes
  record ActsFlow (before : ReaderState Script Core) (came : List ℕ) (after : ReaderState Script Core) : Type 0 where
    limit : after.link.limit ≡ before.link.limit
    behind : (more : List ℕ)
        → (n : ℕ) × IsAfter n (before.link.incoming.bytes ++ ((left_of before).bytes ++ (came ++ more))) (after.link.incoming.bytes ++ ((left_of after).bytes ++ more))

  act_flows : (before after : ReaderState Script Core) (a : Act Event Finish) → Does reader before a after → ActsFlow before (arrived_by a).bytes after
  act_flows before after (Arrived r) (fed, same) = record {
    limit = ap (λ (x : ReaderState Script Core). x.link.limit) same;
    behind = λ more. (
      zero,
      ap (λ (x : ReaderState Script Core). x.link.incoming.bytes ++ ((left_of x).bytes ++ more)) same
          ∙ ap (λ (q : Queue). before.link.incoming.bytes ++ (q.bytes ++ more)) (left_over_more (arrivals_of before) r)
          ∙ ap (λ (bs : List ℕ). before.link.incoming.bytes ++ bs) (append_assoc (left_of before).bytes (came_by r).bytes more),
    );
  }
  act_flows before after (HasRead out) (ample, (left, turns, reads)) =
      let flows = reads_flow ScriptSends ScriptReceives reader left before after turns out reads in
      let came : (left_of before).bytes ≡ (received_in turns).bytes ++ (left_of after).bytes
      = ap (λ (q : Queue). q.bytes) (reads_came left before after turns out ample reads) in
      record {
        limit = flows.limit;
        behind = λ more.
            let f = flows.behind ((left_of after).bytes ++ more) in
            let whole : (received_in turns).bytes ++ ((left_of after).bytes ++ more) ≡ (left_of before).bytes ++ more
            = sym (append_assoc (received_in turns).bytes (left_of after).bytes more) ∙ ap (λ (bs : List ℕ). bs ++ more) (sym came) in
            (f.0, subst (λ (bs : List ℕ). IsAfter f.0 (before.link.incoming.bytes ++ bs) (after.link.incoming.bytes ++ ((left_of after).bytes ++ more))) whole f.1);
      }
  act_flows before after (HasEnded u gave) (off, (es, (v, is, carried))) =
      let kept = carries_stays ScriptSends reader v before.link after es gave false carried in
      let sent = carries_send reader v before.link after es gave false carried in
      record {
        limit = kept.limit;
        behind = λ more. (
          zero,
          ap (λ (q : Queue). q.bytes ++ ((left_of after).bytes ++ more)) kept.incoming
              ∙ ap (λ (l : List (Result Queue IoFault)). before.link.incoming.bytes ++ ((left_over l).bytes ++ more)) sent.arrivals,
        );
      }

  acts_flow : (before after : ReaderState Script Core) (acts : List (Act Event Finish)) → DoesAll reader before acts after → ActsFlow before (arrived acts).bytes after
  acts_flow before after [] same = record {
    limit = ap (λ (x : ReaderState Script Core). x.link.limit) same;
    behind = λ more. (zero, ap (λ (x : ReaderState Script Core). x.link.incoming.bytes ++ ((left_of x).bytes ++ more)) same);
  }
  acts_flow before after (a ∷ acts) (mid, first, rest) =
      let one = act_flows before mid a first in
      let others = acts_flow mid after acts rest in
      record {
        limit = others.limit ∙ one.limit;
        behind = λ more.
            let f = one.behind ((arrived acts).bytes ++ more) in
            let g = others.behind more in
            let both = behind_joins f.0 g.0 _ _ _ f.1 g.1 in
            let bytes = sym (append_assoc (arrived_by a).bytes (arrived acts).bytes more) in
            (both.0, subst (λ (bs : List ℕ). IsAfter both.0 (before.link.incoming.bytes ++ ((left_of before).bytes ++ bs)) (after.link.incoming.bytes ++ ((left_of after).bytes ++ more))) bytes both.1);
      }

  -- where each message is no longer than the incoming storage may become, so is the one at the front in the end
  pub front_fits : (before after : ReaderState Script Core) (acts : List (Act Event Finish)) → DoesAll reader before acts after
      → EachWithin (incoming_limit before.link.limit) (joined before.link.incoming (joined (left_of before) (arrived acts))).bytes → FrontFits after.link
  front_fits before after acts does each =
      let flows = acts_flow before after acts does in
      let f = flows.behind [] in
      let came = ap (λ (bs : List ℕ). before.link.incoming.bytes ++ ((left_of before).bytes ++ bs)) (append-nil (arrived acts).bytes) in
      let behind = subst (λ (bs : List ℕ). IsAfter f.0 bs (after.link.incoming.bytes ++ ((left_of after).bytes ++ []))) came f.1 in
      each_fits after.link before.link.limit ((left_of after).bytes ++ []) flows.limit (each_later f.0 _ _ each behind)

  -- so no receive of such a stretch finds the storage full
  pub within_stretch : (before after : ReaderState Script Core) (acts : List (Act Event Finish)) → IsStretchWithin reader before acts after → IsStretch reader before acts after
  within_stretch before after acts stretch = record {
    spans = stretch.spans;
    roomy = λ core ended. inr (front_fits before after acts stretch.spans.does stretch.within, stretch.in_time core ended.0);
  }
