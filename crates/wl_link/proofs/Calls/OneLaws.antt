-- Where a transport's answers follow from its value, so does what a call does.
--
-- Memory may always be refused, so this is said of answers other than the one that tells it.
use Rattle.std.specs.Prelude.{◌≡◌, ◌≢◌, ℕ, ◌*◌, ◌^◌, ◌<◌, ◌⊎◌, List, [], ◌∷◌, nat_le, ◌==◌, true, false, Option, MatchBool, MatchResult, Result, Ok, Err}
use Rattle.std.proofs.Common.{refl, sym, ◌∙◌, ap, subst, inl, inr}
use Rattle.std.proofs.lemmas.Bool.{cases_Bool, cases_order, MatchBool-at_true, MatchBool-at_false}
use Rattle.wl_wire.specs.declared.error.IoFault.{IoFault}
use Rattle.wl_wire.specs.declared.error.IoFault.TheVariants as fault
use Rattle.wl_wire.specs.Message.{WireMessage, size}
use Rattle.wl_link.specs.Exchange.{Queue, Sending, Chain, IsFunction, IsReceiveFunction}
use Rattle.wl_link.specs.Link.{LinkState, with_outgoing, with_outgoing_capacity, with_incoming, left_of, AfterSend, Flushes, FlushedBy, Wants, Grows, Grown, Put, PlacedBy, WroteBy, FilledBy, counted_answer, count_of, grown_capacity, with_came, with_incoming_capacity, has_room, ignoring, needed}
use Rattle.wl_link.specs.Outcome.{SameCall, SameFill}

-- ---- a flush

record OneFlush {T : Type 0} (es fs : List Sending) (a b : Result (Unit {0}) IoFault) (t u : T) (q r : Queue) : Type 0 where
  pub sends : es ≡ fs
  pub answer : a ≡ b
  pub transport : t ≡ u
  pub left : q ≡ r

same_sending : (e f : Sending) → e.offer ≡ f.offer → e.answer ≡ f.answer → e ≡ f
same_sending e f offers answers =
    let with_offer : Queue → Sending = λ o. record { offer = o; answer = e.answer } in
    let with_answer : Result ℕ IoFault → Sending = λ a. record { offer = f.offer; answer = a } in
    ap with_offer offers ∙ ap with_answer answers

not_refused : (sent : Result ℕ IoFault) (last same dropped : Type 0) (answer : Result (Unit {0}) IoFault) (on : ℕ → Type 0)
    → AfterSend sent last same dropped answer on → answer ≢ Err fault.OutOfMemory → sent ≢ Err fault.OutOfMemory
not_refused (Ok n) last same dropped answer on goes allowed is = absurd cc
not_refused (Err f) last same dropped answer on goes allowed is =
    let e : f ≡ fault.OutOfMemory = cc in
    allowed (goes.2 ∙ ap (λ (x : IoFault). let r : Result (Unit {0}) IoFault = Err x in r) e)

module _ {T : Type 0} (sends : T → Queue → Result ℕ IoFault → T → Type 0) (function : IsFunction sends) where
  chain_ends : (t u : T) (es : List Sending) → es ≡ [] → Chain sends t es u → u ≡ t
  chain_ends t u es none chain = let P : List Sending → Type 0 = λ xs. Chain sends t xs u in subst P none chain

  both_end : (e f : Sending) (es fs : List Sending) (a b : Result (Unit {0}) IoFault) (t u v : T) (q r : Queue)
      → e ≡ f → es ≡ [] → fs ≡ [] → a ≡ b → Chain sends t es u → Chain sends t fs v → q ≡ r
      → OneFlush (e ∷ es) (f ∷ fs) a b u v q r
  both_end e f es fs a b t u v q r same last last' answers chain chain' left = record {
    sends = ap (λ (x : Sending). x ∷ es) same ∙ ap (λ (xs : List Sending). f ∷ xs) (last ∙ sym last');
    answer = answers;
    transport = chain_ends t u es last chain ∙ sym (chain_ends t v fs last' chain');
    left = left;
  }

  flush_same : (t u v : T) (q x y : Queue) (es fs : List Sending) (a b : Result (Unit {0}) IoFault)
      → Chain sends t es u → Chain sends t fs v → Flushes q es a x → Flushes q fs b y → a ≢ Err fault.OutOfMemory → b ≢ Err fault.OutOfMemory
      → OneFlush es fs a b u v x y
  flush_same t u v q x y [] [] a b chain chain' flushes flushes' ok ok' = record {
    sends = refl;
    answer = flushes.2 ∙ sym flushes'.2;
    transport = chain ∙ sym chain';
    left = flushes.1 ∙ sym flushes'.1;
  }
  flush_same t u v q x y [] (f ∷ fs) a b chain chain' flushes flushes' ok ok' = absurd (flushes'.0 flushes.0)
  flush_same t u v q x y (e ∷ es) [] a b chain chain' flushes flushes' ok ok' = absurd (flushes.0 flushes'.0)
  flush_same t u v q x y (e ∷ es) (f ∷ fs) a b chain chain' flushes flushes' ok ok' =
      let offers : e.offer ≡ f.offer = flushes.1 ∙ sym flushes'.1 in
      let allowed = not_refused e.answer _ _ _ a _ flushes.2 ok in
      let allowed' = not_refused f.answer _ _ _ b _ flushes'.2 ok' in
      let send' = subst (λ (o : Queue). sends t o f.answer chain'.0) (sym offers) chain'.1 in
      let same = function t e.offer e.answer f.answer chain.0 chain'.0 chain.1 send' allowed allowed' in
      let later = subst (λ (m : T). Chain sends m fs v) (sym same.1) chain'.2 in
      let goes' = subst (λ (sent : Result ℕ IoFault). AfterSend sent (fs ≡ []) (y ≡ q) (y ≡ left_of 0 q) b (λ n. Flushes (left_of n q) fs b y)) (sym same.0) flushes'.2 in
      once (same_sending e f offers same.0) e.answer flushes.2 goes' later
      (λ n more more'. flush_same chain.0 u v (left_of n q) x y es fs a b chain.2 later more more' ok ok')
    where
      once : e ≡ f → (sent : Result ℕ IoFault)
          → AfterSend sent (es ≡ []) (x ≡ q) (x ≡ left_of 0 q) a (λ n. Flushes (left_of n q) es a x)
          → AfterSend sent (fs ≡ []) (y ≡ q) (y ≡ left_of 0 q) b (λ n. Flushes (left_of n q) fs b y)
          → Chain sends chain.0 fs v
          → ((n : ℕ) → Flushes (left_of n q) es a x → Flushes (left_of n q) fs b y → OneFlush es fs a b u v x y)
          → OneFlush (e ∷ es) (f ∷ fs) a b u v x y
      once same (Err f') goes goes' later others =
          both_end e f es fs a b chain.0 u v x y same goes.0 goes'.0 (goes.2 ∙ sym goes'.2) chain.2 later (goes.1 ∙ sym goes'.1)
      once same (Ok n) goes goes' later others = at (cases_Bool (n == 0))
        where
          at : ((n == 0) ≡ true) ⊎ ((n == 0) ≡ false) → OneFlush (e ∷ es) (f ∷ fs) a b u v x y
          at (inl zero) =
              let g = MatchBool-at_true _ _ zero goes in
              let g' = MatchBool-at_true _ _ zero goes' in
              both_end e f es fs a b chain.0 u v x y same g.0 g'.0 (g.2 ∙ sym g'.2) chain.2 later (g.1 ∙ sym g'.1)
          at (inr more) =
              let o = others n (MatchBool-at_false _ _ more goes) (MatchBool-at_false _ _ more goes') in record {
                sends = ap (λ (z : Sending). z ∷ es) same ∙ ap (λ (zs : List Sending). f ∷ zs) o.sends;
                answer = o.answer;
                transport = o.transport;
                left = o.left;
              }

  pub one_flush_lem : (before x y : LinkState T) (es fs : List Sending) (a b : Result (Unit {0}) IoFault)
      → FlushedBy sends before es a x → FlushedBy sends before fs b y → a ≢ Err fault.OutOfMemory → b ≢ Err fault.OutOfMemory
      → SameCall es fs a b x y
  one_flush_lem before x y es fs a b f g ok ok' =
      let one = flush_same before.transport x.transport y.transport before.outgoing x.outgoing y.outgoing es fs a b f.0 g.0 f.1 g.1 ok ok' in record {
        sends = one.sends;
        answer = one.answer;
        after = f.2 ∙ ap (λ (t : T). with_outgoing before t x.outgoing) one.transport ∙ ap (λ (q : Queue). with_outgoing before y.transport q) one.left ∙ sym g.2;
      }

-- ---- a write

grows_once : (limit : Option ℕ) (needed size a b : ℕ) (g : Grows limit needed size a) (h : Grows limit needed size b) → g.times < h.times → ⊥
grows_once limit needed size a b g h lt = g.enough (subst (λ (n : ℕ). Wants limit needed n) (sym g.grown) (h.wanted g.times lt))

grows_one : (limit : Option ℕ) (needed size a b : ℕ) → Grows limit needed size a → Grows limit needed size b → a ≡ b
grows_one limit needed size a b g h = at (cases_order g.times h.times)
  where
    at : (g.times ≡ h.times) ⊎ ((g.times < h.times) ⊎ (h.times < g.times)) → a ≡ b
    at (inl same) = g.grown ∙ ap (λ (k : ℕ). size * 2 ^ k) same ∙ sym h.grown
    at (inr (inl lt)) = absurd (grows_once limit needed size a b g h lt)
    at (inr (inr lt)) = absurd (grows_once limit needed size b a h g lt)

record OneEnd {T : Type 0} (a b : Result (Unit {0}) IoFault) (x y : LinkState T) : Type 0 where
  pub answer : a ≡ b
  pub after : x ≡ y

put_one : {T : Type 0} (l x y : LinkState T) (m : WireMessage) (a b : Result (Unit {0}) IoFault)
    → Put l m a x → Put l m b y → a ≢ Err fault.OutOfMemory → b ≢ Err fault.OutOfMemory → OneEnd a b x y
put_one l x y m a b (inl p) (inl r) ok ok' = record { answer = p.0 ∙ sym r.0; after = p.1 ∙ sym r.1 }
put_one l x y m a b (inr p) r ok ok' = absurd (ok p.0)
put_one l x y m a b (inl p) (inr r) ok ok' = absurd (ok' r.0)

-- what a write does once the flush in it is done
abbrev Rest : {T : Type 0} → LinkState T → WireMessage → Result (Unit {0}) IoFault → Result (Unit {0}) IoFault → LinkState T → Type 0
Rest l m done answer after =
    MatchResult done
    (λ _. MatchBool (has_room l (size m)) (Put l m answer after) ((answer ≡ Err fault.TooBig) × (after ≡ l)))
    (λ fault. (answer ≡ Err fault) × (after ≡ l))

rest_one : {T : Type 0} (l x y : LinkState T) (m : WireMessage) (done a b : Result (Unit {0}) IoFault)
    → Rest l m done a x → Rest l m done b y → a ≢ Err fault.OutOfMemory → b ≢ Err fault.OutOfMemory → OneEnd a b x y
rest_one l x y m (Ok u) a b p r ok ok' = at (cases_Bool (has_room l (size m)))
  where
    at : (has_room l (size m) ≡ true) ⊎ (has_room l (size m) ≡ false) → OneEnd a b x y
    at (inl room) = put_one l x y m a b (MatchBool-at_true _ _ room p) (MatchBool-at_true _ _ room r) ok ok'
    at (inr full) =
        let p' = MatchBool-at_false _ _ full p in
        let r' = MatchBool-at_false _ _ full r in
        record { answer = p'.0 ∙ sym r'.0; after = p'.1 ∙ sym r'.1 }
rest_one l x y m (Err f) a b p r ok ok' = record { answer = p.0 ∙ sym r.0; after = p.1 ∙ sym r.1 }

-- a flush in a write was not refused memory where the write was not
flush_allowed : {T : Type 0} (l x : LinkState T) (m : WireMessage) (flushed a : Result (Unit {0}) IoFault)
    → Rest l m (ignoring flushed) a x → a ≢ Err fault.OutOfMemory → flushed ≢ Err fault.OutOfMemory
flush_allowed l x m flushed a rest ok is =
    let refused : Rest l m (Err fault.OutOfMemory) a x = subst (λ (f : Result (Unit {0}) IoFault). Rest l m (ignoring f) a x) is rest in
    ok refused.0

module _ {T : Type 0} (sends : T → Queue → Result ℕ IoFault → T → Type 0) (function : IsFunction sends) (m : WireMessage) (x y : LinkState T)
    (es fs : List Sending) (a b : Result (Unit {0}) IoFault) (ok : a ≢ Err fault.OutOfMemory) (ok' : b ≢ Err fault.OutOfMemory) where
  placed_one : (before : LinkState T) → PlacedBy sends before m es a x → PlacedBy sends before m fs b y → SameCall es fs a b x y
  placed_one before p r = at (cases_Bool (has_room before (size m)))
    where
      at : (has_room before (size m) ≡ true) ⊎ (has_room before (size m) ≡ false) → SameCall es fs a b x y
      at (inl room) =
          let p' = MatchBool-at_true _ _ room p in
          let r' = MatchBool-at_true _ _ room r in
          let one = put_one before x y m a b p'.1 r'.1 ok ok' in
          record { sends = p'.0 ∙ sym r'.0; answer = one.answer; after = one.after }
      at (inr full) =
          let p' = MatchBool-at_false _ _ full p in
          let r' = MatchBool-at_false _ _ full r in
          let flush = one_flush_lem sends function before p'.0 r'.0 es fs p'.1 r'.1 p'.2 r'.2
          (flush_allowed p'.0 x m p'.1 a p'.3 ok) (flush_allowed r'.0 y m r'.1 b r'.3 ok') in
          let later = subst (λ (f : Result (Unit {0}) IoFault). Rest r'.0 m (ignoring f) b y) (sym flush.answer) r'.3 in
          let later' = subst (λ (l : LinkState T). Rest l m (ignoring p'.1) b y) (sym flush.after) later in
          let one = rest_one p'.0 x y m (ignoring p'.1) a b p'.3 later' ok ok' in
          record { sends = flush.sends; answer = one.answer; after = one.after }

  pub one_write_lem : (before : LinkState T) → WroteBy sends before m es a x → WroteBy sends before m fs b y → SameCall es fs a b x y
  one_write_lem before w v = at (cases_Bool (nat_le (size m) 65535))
    where
      grows : ((es ≡ []) × (a ≡ Err fault.OutOfMemory) × (x ≡ before) × Wants before.limit (needed before (size m)) before.outgoing_capacity)
          ⊎ ((grown : LinkState T) × Grown before (size m) grown × PlacedBy sends grown m es a x)
          → ((fs ≡ []) × (b ≡ Err fault.OutOfMemory) × (y ≡ before) × Wants before.limit (needed before (size m)) before.outgoing_capacity)
          ⊎ ((grown : LinkState T) × Grown before (size m) grown × PlacedBy sends grown m fs b y)
          → SameCall es fs a b x y
      grows (inl refused) other = absurd (ok refused.1)
      grows (inr g) (inl refused) = absurd (ok' refused.1)
      grows (inr g) (inr h) =
          let size_same : g.0.outgoing_capacity ≡ h.0.outgoing_capacity = grows_one before.limit (needed before (size m)) before.outgoing_capacity g.0.outgoing_capacity h.0.outgoing_capacity g.1.0 h.1.0 in
          let same : h.0 ≡ g.0 = h.1.1 ∙ ap (λ (n : ℕ). with_outgoing_capacity before n) (sym size_same) ∙ sym g.1.1 in
          placed_one g.0 g.2 (subst (λ (l : LinkState T). PlacedBy sends l m fs b y) same h.2)

      at : (nat_le (size m) 65535 ≡ true) ⊎ (nat_le (size m) 65535 ≡ false) → SameCall es fs a b x y
      at (inl small) = grows (MatchBool-at_true _ _ small w) (MatchBool-at_true _ _ small v)
      at (inr long) =
          let w' = MatchBool-at_false _ _ long w in
          let v' = MatchBool-at_false _ _ long v in
          record { sends = w'.0 ∙ sym v'.0; answer = w'.1 ∙ sym v'.1; after = w'.2 ∙ sym v'.2 }

-- ---- a fill

receive_allowed : (r : Result Queue IoFault) (a : Result (Unit {0}) IoFault) → a ≡ counted_answer (count_of r) → a ≢ Err fault.OutOfMemory → r ≢ Err fault.OutOfMemory
receive_allowed r a e ok is = ok (e ∙ ap (λ (x : Result Queue IoFault). counted_answer (count_of x)) is)

pub one_fill_lem : {T : Type 0} (receives : T → ℕ → Result Queue IoFault → T → Type 0) → IsReceiveFunction receives
    → (before x y : LinkState T) (r s : Result Queue IoFault) (a b : Result (Unit {0}) IoFault)
    → FilledBy receives before r a x → FilledBy receives before s b y → a ≢ Err fault.OutOfMemory → b ≢ Err fault.OutOfMemory
    → SameFill r s a b x y
one_fill_lem {T = T} receives function before x y r s a b f g ok ok' =
    let same = function before.transport _ r s x.transport y.transport f.0 g.0 (receive_allowed r a f.1 ok) (receive_allowed s b g.1 ok') in
    let grown : LinkState T = with_incoming_capacity before (grown_capacity before) in record {
      received = same.0;
      answer = f.1 ∙ ap (λ (z : Result Queue IoFault). counted_answer (count_of z)) same.0 ∙ sym g.1;
      after = f.2 ∙ ap (λ (t : T). with_incoming grown t (with_came before.incoming r)) same.1
          ∙ ap (λ (z : Result Queue IoFault). with_incoming grown y.transport (with_came before.incoming z)) same.0 ∙ sym g.2;
    }
