-- Nothing that is put is lost: what the sends took, followed by what waits, is what waited, followed by the spellings of
-- the messages that were put.
use Rattle.std.proofs.Common.{◌≡◌, ℕ, Bool, true, false, List, [], ◌∷◌, ◌++◌, append_assoc, append-nil, None, Some, Result, Ok, Err, MatchResult, MatchBool, refl, sym, ap, subst, ◌∙◌}
use Rattle.std.specs.Prelude.{map}
use mathlib.Core.Logic.{inl, inr}
use Rattle.wl_wire.specs.declared.argument.Token.{Token}
use Rattle.wl_wire.specs.declared.error.IoFault.{IoFault}
use Rattle.wl_wire.specs.Message.{WireMessage}
use Rattle.wl_link.specs.Exchange.{Queue, Sending, joined, nothing, IsWithinOffer}
use Rattle.wl_link.specs.Link.{LinkState, count_of, counted_answer, spelled}
use Rattle.wl_link.specs.NothingLost.{LosesNothing, gone, gone_by, queued_by, taken, taken_by}
use Rattle.wl_link.specs.Sides.{spelled_all}
use Rattle.wl_link.proofs.Streams.StreamLaws.{spelled_all-append}
use Rattle.wl_link.proofs.Calls.NothingLostLaws.{flush_kept, write_kept}
use Rattle.wl_link.specs.Puts.{FlushesOut, PutBy, PutsOut, Said, lacks_memory, messages_of}
use Rattle.wl_link.specs.Reader.{CarriesOut, Given, Gives, Halts, HandedOut, Handled, ReaderState, Queued, Reader, Reads, Received, Stops, Turn, Unread, Verdict, given_first, came_to, put_and_gave, queued_in, sends_in, stops, with_link}
use Rattle.wl_link.specs.Served.{Finds}
use Rattle.wl_link.proofs.Calls.LaterLaws.{other_reads}
use Rattle.wl_link.proofs.Calls.Branches.{either_bool}
use Rattle.wl_link.proofs.Calls.QueueLaws.{joined_assoc, joined_nothing}

-- ---- one after another

taken-append : (es fs : List Sending) → taken (es ++ fs) ≡ joined (taken es) (taken fs)
taken-append [] fs = refl
taken-append (e ∷ es) fs = ap (joined (taken_by e.answer e.offer)) (taken-append es fs) ∙ sym (joined_assoc (taken_by e.answer e.offer) (taken es) (taken fs))

gone-append : (es fs : List Sending) → gone (es ++ fs) ≡ gone es ++ gone fs
gone-append [] fs = refl
gone-append (e ∷ es) fs =
    ap (λ (ts : List Token). gone_by e.answer e.offer ++ ts) (gone-append es fs) ∙ sym (append_assoc (gone_by e.answer e.offer) (gone es) (gone fs))

-- a behind b, where the part between is known
chained : {A : Type 0} (s t c b a x y : List A) → s ++ b ≡ a ++ x → t ++ c ≡ b ++ y → (s ++ t) ++ c ≡ a ++ (x ++ y)
chained s t c b a x y first second =
    append_assoc s t c ∙ ap (λ l. s ++ l) second ∙ sym (append_assoc s b y) ∙ ap (λ l. l ++ y) first ∙ append_assoc a x y

pub kept_then : (es fs : List Sending) (a b c x y : Queue) → LosesNothing es a x b → LosesNothing fs b y c → LosesNothing (es ++ fs) a (joined x y) c
kept_then es fs a b c x y first second = record {
  bytes = ap (λ (q : Queue). q.bytes ++ c.bytes) (taken-append es fs)
      ∙ chained (taken es).bytes (taken fs).bytes c.bytes b.bytes a.bytes x.bytes y.bytes first.bytes second.bytes;
  tokens = ap (λ (ts : List Token). ts ++ c.tokens) (gone-append es fs)
      ∙ chained (gone es) (gone fs) c.tokens b.tokens a.tokens x.tokens y.tokens first.tokens second.tokens;
}

-- nothing is sent or put, and the same waits
pub kept_still : (es : List Sending) (a c : Queue) → es ≡ [] → c ≡ a → LosesNothing es a nothing c
kept_still es a c none same =
    subst (λ (fs : List Sending). LosesNothing fs a nothing c) (sym none)
    (record { bytes = ap (λ (q : Queue). q.bytes) same ∙ sym (append-nil a.bytes); tokens = ap (λ (q : Queue). q.tokens) same ∙ sym (append-nil a.tokens) })

-- ---- messages that are put

queued-append : {Event : Type 0} (gave others : List (Given Event)) → queued_in (gave ++ others) ≡ queued_in gave ++ queued_in others
queued-append [] others = refl
queued-append (Queued m ∷ gave) others = ap (λ (ms : List Said). m ∷ ms) (queued-append gave others)
queued-append (HandedOut e ∷ gave) others = queued-append gave others

messages-append : (said others : List Said) → messages_of (said ++ others) ≡ messages_of said ++ messages_of others
messages-append [] others = refl
messages-append (s ∷ said) others = ap (λ (ms : List WireMessage). s.message ∷ ms) (messages-append said others)

queued_handed : {Event : Type 0} (events : List Event) → queued_in (map HandedOut events) ≡ []
queued_handed [] = refl
queued_handed (e ∷ events) = queued_handed events

queued_put : {Event : Type 0} (put : List Said) (events : List Event) → queued_in (put_and_gave put events) ≡ put
queued_put [] events = queued_handed events
queued_put (m ∷ put) events = ap (λ (ms : List Said). m ∷ ms) (queued_put put events)

module _ {T : Type 0} (sends : T → Queue → Result ℕ IoFault → T → Type 0) (within : IsWithinOffer sends) where
  pub put_by_kept : (m : Said) (before after : LinkState T) (es : List Sending) (answer : Result (Unit {0}) IoFault) → PutBy sends before m es answer after
      → LosesNothing es before.outgoing (queued_by answer m.message) after.outgoing
  put_by_kept m before after es answer (inl wrote) = write_kept sends within m.message after answer before es wrote
  put_by_kept m before after es answer (inr (none, is, same, text)) =
      subst (λ (a : Result (Unit {0}) IoFault). LosesNothing es before.outgoing (queued_by a m.message) after.outgoing) (sym is)
      (kept_still es before.outgoing after.outgoing none (ap (λ (l : LinkState T). l.outgoing) same))

  pub puts_kept : (ms : List Said) (before after : LinkState T) (es : List Sending) (put : List Said) (answer : Result (Unit {0}) IoFault)
      → PutsOut sends before ms es put answer after → LosesNothing es before.outgoing (spelled_all (messages_of put)) after.outgoing
  puts_kept [] before after es put answer (none, nothing', is, same) =
      subst (λ (ms : List Said). LosesNothing es before.outgoing (spelled_all (messages_of ms)) after.outgoing) (sym nothing')
      (kept_still es before.outgoing after.outgoing none (ap (λ (l : LinkState T). l.outgoing) same))
  puts_kept (m ∷ ms) before after es put answer (first, Ok u, mid, one, (next, rest, split, is, puts)) =
      let both = kept_then first next before.outgoing mid.outgoing after.outgoing (spelled m.message) (spelled_all (messages_of rest))
      (put_by_kept m before mid first (Ok u) one) (puts_kept ms mid after next rest answer puts) in
      let sent = subst (λ (fs : List Sending). LosesNothing fs before.outgoing (spelled_all (messages_of (m ∷ rest))) after.outgoing) (sym split) both in
      subst (λ (ns : List Said). LosesNothing es before.outgoing (spelled_all (messages_of ns)) after.outgoing) (sym is) sent
  puts_kept (m ∷ ms) before after es put answer (first, Err f, mid, one, (split, none, is, same)) =
      let here = put_by_kept m before mid first (Err f) one in
      let sent = subst (λ (fs : List Sending). LosesNothing fs before.outgoing nothing mid.outgoing) (sym split) here in
      let end = subst (λ (l : LinkState T). LosesNothing es before.outgoing nothing l.outgoing) (sym same) sent in
      subst (λ (ns : List Said). LosesNothing es before.outgoing (spelled_all (messages_of ns)) after.outgoing) (sym none) end

  pub flushes_kept : (flushes lacked : Bool) (before after : LinkState T) (es : List Sending) → FlushesOut sends flushes before es lacked after
      → LosesNothing es before.outgoing nothing after.outgoing
  flushes_kept flushes lacked before after es h =
      elim (either_bool flushes h) [
        | inl (answer, flush, is) ↦ flush_kept sends within before after es answer flush
        | inr (none, same, is) ↦ kept_still es before.outgoing after.outgoing none (ap (λ (l : LinkState T). l.outgoing) same)
      ]

-- ---- a reader

module _ {T Core Event Finish : Type 0} (sends : T → Queue → Result ℕ IoFault → T → Type 0) (within : IsWithinOffer sends) (reader : Reader Core Event Finish) where
  -- what was put is what is gone and what waits more
  abbrev pub LogLosesNothing : LinkState T → List Sending → List (Given Event) → LinkState T → Type 0
  LogLosesNothing before es gave after = LosesNothing es before.outgoing (spelled_all (messages_of (queued_in gave))) after.outgoing

  pub carries_kept : (v : Verdict Core Event) (before : LinkState T) (after : ReaderState T Core) (es : List Sending) (gave : List (Given Event)) (refused : Bool)
      → CarriesOut sends reader v before es gave refused after → LogLosesNothing before es gave after.link
  carries_kept v before after es gave refused (inl (first, others, put, wrote, mid, lacked, puts, flushes, split, end, is, was)) =
      let both = kept_then first others before.outgoing mid.outgoing after.link.outgoing (spelled_all (messages_of put)) nothing
      (puts_kept sends within v.puts before mid first put wrote puts) (flushes_kept sends within v.flushes lacked mid after.link others flushes) in
      let sent = subst (λ (fs : List Sending). LosesNothing fs before.outgoing (joined (spelled_all (messages_of put)) nothing) after.link.outgoing) (sym split) both in
      let put_is : queued_in gave ≡ put = ap queued_in is ∙ queued_put put (v.events (came_to reader v wrote)) in
      subst (λ (q : Queue). LosesNothing es before.outgoing q after.link.outgoing) (joined_nothing (spelled_all (messages_of put)) ∙ ap (λ (ms : List Said). spelled_all (messages_of ms)) (sym put_is)) sent
  carries_kept v before after es gave refused (inr (asks, was, none, is, same)) =
      subst (λ (ms : List Said). LosesNothing es before.outgoing (spelled_all (messages_of ms)) after.link.outgoing) (sym (ap queued_in is ∙ queued_handed (v.events v.starved)))
      (kept_still es before.outgoing after.link.outgoing none (ap (λ (x : ReaderState T Core). x.link.outgoing) same))

  -- what was found is taken off what waits to be read alone
  found_outgoing : (p : ReaderState T Core) (v : Verdict Core Event) (link : LinkState T) → Finds sends reader p v link → link.outgoing ≡ p.link.outgoing
  found_outgoing p v link (inl (m, read, is)) =
      ap (λ (l : LinkState T). l.outgoing)
      (other_reads (λ sender opcode f. f ≡ reader.signature p.core sender opcode) p.link p.link nothing (sym (joined_nothing p.link.incoming)) m link read).0
  found_outgoing p v link (inr (malformed, same, is)) = ap (λ (l : LinkState T). l.outgoing) same

  nothing_put : (left : ℕ) (p : ReaderState T Core) (out : Gives Event) → Stops sends reader left p out → out.gave ≡ []
  nothing_put left p out ends = go (reader.reads_on p.core) ends
    where
      gave_of : Gives Event → List (Given Event)
      gave_of o = o.gave

      go : (b : Bool) → MatchBool b (Halts sends reader left p out) (out ≡ stops None false left) → out.gave ≡ []
      go true (inl (lacks, none, is)) = ap gave_of is
      go true (inr (inl (asks, is))) = ap gave_of is
      go true (inr (inr (lacks, (n, one, is)))) = ap gave_of is
      go false is = ap gave_of is

  kept_nothing : (before after : LinkState T) (es : List Sending) (gave : List (Given Event)) → es ≡ [] → gave ≡ [] → after.outgoing ≡ before.outgoing → LogLosesNothing before es gave after
  kept_nothing before after es gave none empty same =
      subst (λ (g : List (Given Event)). LogLosesNothing before es g after) (sym empty) (kept_still es before.outgoing after.outgoing none same)

  -- a verdict that was carried out, and what followed it
  kept_heard : (p after : ReaderState T Core) (link : LinkState T) (v : Verdict Core Event) (es others : List Sending) (first : List (Given Event)) (lacked : Bool) (mid : ReaderState T Core)
      (out rest : Gives Event) → Finds sends reader p v link → CarriesOut sends reader v link es first lacked mid → out ≡ given_first first lacked rest
      → LogLosesNothing mid.link others rest.gave after.link → LogLosesNothing p.link (es ++ others) out.gave after.link
  kept_heard p after link v es others first lacked mid out rest found carried split more =
      let one = subst (λ (q : Queue). LosesNothing es q (spelled_all (messages_of (queued_in first))) mid.link.outgoing) (found_outgoing p v link found) (carries_kept v link mid es first lacked carried) in
      let both = kept_then es others p.link.outgoing mid.link.outgoing after.link.outgoing (spelled_all (messages_of (queued_in first))) (spelled_all (messages_of (queued_in rest.gave))) one more in
      let log : joined (spelled_all (messages_of (queued_in first))) (spelled_all (messages_of (queued_in rest.gave))) ≡ spelled_all (messages_of (queued_in out.gave))
      = sym (spelled_all-append (messages_of (queued_in first)) (messages_of (queued_in rest.gave)))
      ∙ ap spelled_all (sym (messages-append (queued_in first) (queued_in rest.gave)))
      ∙ ap (λ (ms : List Said). spelled_all (messages_of ms)) (sym (queued-append first rest.gave)) ∙ ap (λ (o : Gives Event). spelled_all (messages_of (queued_in o.gave))) (sym split) in
      subst (λ (q : Queue). LosesNothing (es ++ others) p.link.outgoing q after.link.outgoing) log both

  module _ (receives : T → ℕ → Result Queue IoFault → T → Type 0) (after : ReaderState T Core) where
    pub reads_kept : (left : ℕ) (p : ReaderState T Core) (turns : List Turn) (out : Gives Event) → Reads sends reader receives left p turns out after
        → LogLosesNothing p.link (sends_in turns) out.gave after.link
    reads_kept left p [] out (same, ends) = kept_nothing p.link after.link [] out.gave refl (nothing_put left p out ends) (ap (λ (x : ReaderState T Core). x.link.outgoing) same)
    reads_kept left p (Received r ∷ turns) out (on, lacks, (n, is, (link, filled, finds, h))) =
        subst (λ (q : Queue). LosesNothing (sends_in turns) q (spelled_all (messages_of (queued_in out.gave))) after.link.outgoing) (ap (λ (l : LinkState T). l.outgoing) filled.2)
        (go (counted_answer (count_of r)) h (λ more. reads_kept n (with_link p link) turns out more))
      where
        go : (c : Result (Unit {0}) IoFault)
            → MatchResult c (λ _. Reads sends reader receives n (with_link p link) turns out after)
            (λ f. (turns ≡ []) × (out ≡ stops (Some f) (lacks_memory (Err f)) n) × (after ≡ record { core = reader.faulted p.core f; link = link }))
            → (Reads sends reader receives n (with_link p link) turns out after → LogLosesNothing link (sends_in turns) out.gave after.link) → LogLosesNothing link (sends_in turns) out.gave after.link
        go (Ok u) more goes = goes more
        go (Err f) (none, ends, same) goes =
            kept_nothing link after.link (sends_in turns) out.gave (ap sends_in none) (ap (λ (o : Gives Event). o.gave) ends) (ap (λ (x : ReaderState T Core). x.link.outgoing) same)
    reads_kept left p (Handled es ∷ turns) out (on, (v, link, first, lacked, mid, rest, found, carried, split, more)) =
        kept_heard p after link v es (sends_in turns) first lacked mid out rest (inl found) carried split (reads_kept left mid turns rest more)
    reads_kept left p (Unread es ∷ turns) out (on, (v, link, first, lacked, mid, rest, found, carried, split, more)) =
        kept_heard p after link v es (sends_in turns) first lacked mid out rest (inr found) carried split (reads_kept left mid turns rest more)
