-- What leaves with one send: all that waits, if it has at most 28 tokens, and else one byte with the first 28.
use Rattle.std.specs.Prelude.{◌≡◌, ◌≢◌, ℕ, ◌+◌, ◌<◌, ◌≤◌, Bool, true, false, Option, None, List, [], ◌∷◌, length, nat_le, take, drop, ◌==◌, ◌&&◌, if◌then◌else◌, IsOk, Result, Ok, Err}
use Rattle.std.proofs.Common.{ap, arith, inl, inr, refl, subst, sym, ◌∙◌}
use Rattle.std.proofs.lemmas.Bool.{MatchBool-at_false, eqb-true, le-leb, leb-false, leb-true, lt-leb, lt-ltb}
use Rattle.std.proofs.lemmas.List.{drop_all, length-append, length-drop, length-take}
use Rattle.wl_wire.specs.declared.argument.Token.{Token}
use Rattle.wl_wire.specs.declared.error.IoFault.{IoFault}
use Rattle.wl_wire.specs.declared.error.IoFault.TheVariants as fault
use Rattle.wl_link.specs.Exchange.{Chain, Queue, Sending, joined, nothing}
use Rattle.wl_link.specs.Link.{AfterSend, Flushed, Flushes, LinkState, left_of, offer_of, offer_size}
use Rattle.wl_link.specs.Mailbox.{MailboxSends, MailboxState, answer_under, has_room, kept_by, mailbox_answer}
use Rattle.wl_link.specs.MailboxLink.{still_to_send}
use Rattle.wl_link.proofs.Calls.MailboxLinkLaws.{flush_keeps_all}
use Rattle.wl_link.proofs.Calls.QueueLaws.{joined_nothing, queue_is}
use Rattle.wl_relay.specs.Flow.{IsOpen, Settings, one_send}
use Rattle.wl_relay.proofs.Flows.{offers_some, some_taken}

-- a mailbox that refuses nothing, and whose room is not used up by so many bytes
abbrev TakesUpTo : MailboxState → ℕ → Type 0
TakesUpTo m most = (m.send_fault ≡ None) × (most < m.room)

-- ---- a send

yes : (less few : Bool) (n : ℕ) → less ≡ true → few ≡ true → answer_under None (less && few) n ≡ Ok n
yes true true n a b = refl
yes true false n a b = absurd cc
yes false few n a b = absurd cc

no : (less few : Bool) (n : ℕ) → few ≡ false → answer_under None (less && few) n ≡ Err fault.WouldBlock
no true false n b = refl
no true true n b = absurd cc
no false few n b = refl

module _ (m m' : MailboxState) (offer : Queue) (answer : Result ℕ IoFault) (fine : m.send_fault ≡ None) where
  answers : mailbox_answer m offer ≡ answer_under None (has_room m offer) (length offer.bytes)
  answers = ap (λ (f : Option IoFault). answer_under f (has_room m offer) (length offer.bytes)) fine

  -- few tokens are taken
  taken_all : MailboxSends m offer answer m' → length m.waiting.bytes < m.room → length m.waiting.tokens + length offer.tokens ≤ 28
      → answer ≢ Err fault.OutOfMemory → (answer ≡ Ok (length offer.bytes)) × (m'.waiting ≡ joined m.waiting offer)
  taken_all (inl s) room few memory =
      let ok : mailbox_answer m offer ≡ Ok (length offer.bytes)
      = answers ∙ yes _ _ (length offer.bytes) (lt-ltb _ _ room) (le-leb _ _ few) in
      (s.0 ∙ ok, ap (λ (x : MailboxState). x.waiting) s.1 ∙ ap (λ (a : Result ℕ IoFault). kept_by a m.waiting offer) ok)
  taken_all (inr s) room few memory = absurd (memory s.0)

  -- and for more there is no room
  blocked : MailboxSends m offer answer m' → 28 < length m.waiting.tokens + length offer.tokens → (answer ≡ Err fault.WouldBlock) × (m'.waiting ≡ m.waiting)
  blocked (inl s) many =
      let full : mailbox_answer m offer ≡ Err fault.WouldBlock = answers ∙ no _ _ (length offer.bytes) (lt-leb _ _ many) in
      (s.0 ∙ full, ap (λ (x : MailboxState). x.waiting) s.1 ∙ ap (λ (a : Result ℕ IoFault). kept_by a m.waiting offer) full)
  blocked (inr s) many =
      let full : mailbox_answer m offer ≡ Err fault.WouldBlock = answers ∙ no _ _ (length offer.bytes) (lt-leb _ _ many) in
      let never = subst (λ (a : Result ℕ IoFault). IsOk a) full s.2 in absurd cc

-- ---- what waits in a mailbox only grows

send_grows : (m m' : MailboxState) (offer : Queue) (answer : Result ℕ IoFault) → MailboxSends m offer answer m'
    → length m.waiting.bytes ≤ length m'.waiting.bytes
send_grows m m' offer answer (inl s) =
    at (mailbox_answer m offer) (ap (λ (x : MailboxState). x.waiting) s.1)
  where
    at : (a : Result ℕ IoFault) → m'.waiting ≡ kept_by a m.waiting offer → length m.waiting.bytes ≤ length m'.waiting.bytes
    at (Ok n) is = omega (arith, ap (λ (q : Queue). length q.bytes) is, length-append m.waiting.bytes offer.bytes)
    at (Err f) is = omega (arith, ap (λ (q : Queue). length q.bytes) is)
send_grows m m' offer answer (inr s) = omega (arith, ap (λ (x : MailboxState). length x.waiting.bytes) s.1)

chain_grows : (es : List Sending) (m m' : MailboxState) → Chain MailboxSends m es m' → length m.waiting.bytes ≤ length m'.waiting.bytes
chain_grows [] m m' same = omega (arith, ap (λ (x : MailboxState). length x.waiting.bytes) same)
chain_grows (e ∷ es) m m' chain = omega (arith, send_grows m chain.0 e.offer e.answer chain.1, chain_grows es chain.0 m' chain.2)

send_keeps_room : (m m' : MailboxState) (offer : Queue) (answer : Result ℕ IoFault) → MailboxSends m offer answer m'
    → (m'.send_fault ≡ m.send_fault) × (m'.room ≡ m.room)
send_keeps_room m m' offer answer (inl s) = (ap (λ (x : MailboxState). x.send_fault) s.1, ap (λ (x : MailboxState). x.room) s.1)
send_keeps_room m m' offer answer (inr s) = (ap (λ (x : MailboxState). x.send_fault) s.1, ap (λ (x : MailboxState). x.room) s.1)

ok_is : (n k : ℕ) → ◌≡◌ {A = Result ℕ IoFault} (Ok n) (Ok k) → n ≡ k
ok_is n k e = cc

err_is : (f g : IoFault) → ◌≡◌ {A = Result ℕ IoFault} (Err f) (Err g) → ◌≡◌ {A = Result (Unit {0}) IoFault} (Err f) (Err g)
err_is f g e = cc

-- ---- the first send of a flush

-- it takes its offer, and the others follow
module _ (m mid : MailboxState) (q q' : Queue) (e : Sending) (es : List Sending) (answer : Result (Unit {0}) IoFault) where
  pub first_send : e.offer ≡ offer_of q → q.bytes ≢ [] → MailboxSends m e.offer e.answer mid → TakesUpTo m (length m.waiting.bytes)
      → length m.waiting.tokens + length (take 28 q.tokens) ≤ 28 → answer ≢ Err fault.OutOfMemory
      → AfterSend e.answer (es ≡ []) (q' ≡ q) (q' ≡ left_of 0 q) answer (λ n. Flushes (left_of n q) es answer q')
      → (mid.waiting ≡ joined m.waiting (offer_of q)) × Flushes (left_of (length (offer_of q).bytes) q) es answer q'
  first_send offered some sends takes few memory after = at e.answer refl
    where
      small : length m.waiting.tokens + length e.offer.tokens ≤ 28
      small = omega (arith, few, ap (λ (o : Queue). length o.tokens) offered)

      took : e.answer ≢ Err fault.OutOfMemory → (e.answer ≡ Ok (length e.offer.bytes)) × (mid.waiting ≡ joined m.waiting e.offer)
      took spared = taken_all m mid e.offer e.answer takes.0 sends takes.1 small spared

      goes_on : (n : ℕ) (z : Bool) → (n == 0) ≡ z → n ≡ length (offer_of q).bytes
          → AfterSend (Ok n) (es ≡ []) (q' ≡ q) (q' ≡ left_of 0 q) answer (λ k. Flushes (left_of k q) es answer q')
          → Flushes (left_of (length (offer_of q).bytes) q) es answer q'
      goes_on n false is all on = subst (λ (k : ℕ). Flushes (left_of k q) es answer q') all (MatchBool-at_false _ _ is on)
      goes_on n true is all on = absurd (some (some_taken (offer_size q.tokens) q.bytes (offers_some q.tokens) (sym all ∙ eqb-true n 0 is)))

      at : (a : Result ℕ IoFault) → e.answer ≡ a → (mid.waiting ≡ joined m.waiting (offer_of q)) × Flushes (left_of (length (offer_of q).bytes) q) es answer q'
      at (Err f) is =
          let ended = subst (λ (x : Result ℕ IoFault). AfterSend x (es ≡ []) (q' ≡ q) (q' ≡ left_of 0 q) answer (λ n. Flushes (left_of n q) es answer q')) is after in
          let last : answer ≡ Err f = ended.2 in
          let other : e.answer ≡ Ok (length e.offer.bytes) = (took (λ o. memory (last ∙ err_is f fault.OutOfMemory (sym is ∙ o)))).0 in
          absurd cc
      at (Ok n) is =
          let t = took (λ o. let e2 = sym is ∙ o in absurd cc) in
          let all : n ≡ length (offer_of q).bytes = ok_is n (length e.offer.bytes) (sym is ∙ t.0) ∙ ap (λ (o : Queue). length o.bytes) offered in (
            t.1 ∙ ap (λ (o : Queue). joined m.waiting o) offered,
            goes_on n (n == 0) refl all
                (subst (λ (x : Result ℕ IoFault). AfterSend x (es ≡ []) (q' ≡ q) (q' ≡ left_of 0 q) answer (λ k. Flushes (left_of k q) es answer q')) is after),
          )

-- ---- no more tokens wait

-- all that is left is taken
drains : (es : List Sending) (m m' : MailboxState) (q q' : Queue) (answer : Result (Unit {0}) IoFault)
    → Chain MailboxSends m es m' → Flushes q es answer q' → TakesUpTo m (length m'.waiting.bytes) → length m.waiting.tokens ≤ 28
    → q.tokens ≡ [] → answer ≢ Err fault.OutOfMemory → q' ≡ nothing
drains [] m m' q q' answer chain flushes takes few none memory = flushes.1 ∙ queue_is _ _ flushes.0 none
drains (e ∷ es) m m' q q' answer chain flushes takes few none memory =
    let mid : MailboxState = chain.0 in
    let same = send_keeps_room m mid e.offer e.answer chain.1 in
    let one = first_send m mid q q' e es answer flushes.1 flushes.0 chain.1
    (takes.0, omega (arith, takes.1, send_grows m mid e.offer e.answer chain.1, chain_grows es mid m' chain.2))
    (omega (arith, few, ap (λ (ts : List Token). length (take 28 ts)) none)) memory flushes.2 in
    drains es mid m' (left_of (length (offer_of q).bytes) q) q' answer chain.2 one.1
    (same.0 ∙ takes.0, omega (arith, takes.1, same.1))
    (omega (arith, few, ap (λ (w : Queue). length w.tokens) one.0, length-append m.waiting.tokens (take 28 q.tokens), ap (λ (ts : List Token). length (take 28 ts)) none))
    (ap (λ (ts : List Token). drop 28 ts) none) memory

-- ---- a flush into an empty mailbox

module _ (e : Sending) (es : List Sending) (m m' : MailboxState) (q q' : Queue) (answer : Result (Unit {0}) IoFault)
    (empty : m.waiting ≡ nothing) (memory : answer ≢ Err fault.OutOfMemory) (takes : TakesUpTo m (length m'.waiting.bytes))
    (chain : Chain MailboxSends m (e ∷ es) m') (flushes : Flushes q (e ∷ es) answer q') where
  abbrev mid : MailboxState
  mid = chain.0

  none_yet : length m.waiting.tokens ≡ 0
  none_yet = ap (λ (w : Queue). length w.tokens) empty

  begun : (mid.waiting ≡ joined m.waiting (offer_of q)) × Flushes (left_of (length (offer_of q).bytes) q) es answer q'
  begun =
      first_send m mid q q' e es answer flushes.1 flushes.0 chain.1
      (takes.0, omega (arith, takes.1, send_grows m mid e.offer e.answer chain.1, chain_grows es mid m' chain.2))
      (omega (arith, none_yet, length-take 28 q.tokens)) memory flushes.2

  ready : mid.waiting ≡ offer_of q
  ready = begun.0 ∙ ap (λ (w : Queue). joined w (offer_of q)) empty

  -- at most 28 tokens: all leaves
  pub all_leaves : length q.tokens ≤ 28 → q' ≡ nothing
  all_leaves few =
      let same = send_keeps_room m mid e.offer e.answer chain.1 in
      drains es mid m' (left_of (length (offer_of q).bytes) q) q' answer chain.2 begun.1
      (same.0 ∙ takes.0, omega (arith, takes.1, same.1))
      (omega (arith, ap (λ (w : Queue). length w.tokens) ready, length-take 28 q.tokens))
      (drop_all 28 q.tokens few) memory

  -- more: one byte leaves
  pub one_leaves : 28 < length q.tokens → m'.waiting ≡ record { bytes = take 1 q.bytes; tokens = take 28 q.tokens }
  one_leaves many = others es chain.2 begun.1 ∙ ready ∙ offered
    where
      offered : offer_of q ≡ record { bytes = take 1 q.bytes; tokens = take 28 q.tokens }
      offered = ap (λ (b : Bool). record { bytes = take (if b then 4096 else 1) q.bytes; tokens = take 28 q.tokens }) (lt-leb (length q.tokens) 28 many)

      others : (es : List Sending) → Chain MailboxSends mid es m' → Flushes (left_of (length (offer_of q).bytes) q) es answer q' → m'.waiting ≡ mid.waiting
      others [] last on = ap (λ (x : MailboxState). x.waiting) last
      others (f ∷ fs) more on =
          let stops = blocked mid more.0 f.offer f.answer ((send_keeps_room m mid e.offer e.answer chain.1).0 ∙ takes.0) more.1
          (omega (
            arith,
            many,
            ap (λ (w : Queue). length w.tokens) ready,
            ap (λ (o : Queue). length o.tokens) on.1,
            length-take 28 q.tokens,
            length-take 28 (drop 28 q.tokens),
            length-drop 28 q.tokens,
          )) in
          let ended = subst (λ (x : Result ℕ IoFault). AfterSend x (fs ≡ []) (q' ≡ left_of (length (offer_of q).bytes) q)
          (q' ≡ left_of 0 (left_of (length (offer_of q).bytes) q)) answer (λ n. Flushes (left_of n (left_of (length (offer_of q).bytes) q)) fs answer q')) stops.0 on.2 in
          let last : m' ≡ more.0 = subst (λ (gs : List Sending). Chain MailboxSends more.0 gs m') ended.0 more.2 in
          ap (λ (x : MailboxState). x.waiting) last ∙ stops.1

-- what waits in the mailbox after a flush is what leaves with one send
pub leaves_whole : (before after : LinkState MailboxState) (answer : Result (Unit {0}) IoFault) → IsOpen before → Flushed MailboxSends before answer after
    → answer ≢ Err fault.OutOfMemory → 0 < length after.transport.waiting.bytes → length after.transport.waiting.bytes < 18446744073709551615
    → before.transport.waiting ≡ nothing → after.transport.waiting ≡ one_send (still_to_send before)
leaves_whole before after answer free f memory some small empty =
    at f.0 f.1.0 f.1.1 ∙ sym (ap (λ (w : Queue). one_send (joined w before.outgoing)) empty)
  where
    takes : TakesUpTo before.transport (length after.transport.waiting.bytes)
    takes = (ap (λ (s : Settings). s.send_fault) free, omega (arith, small, ap (λ (s : Settings). s.room) free))

    q : Queue
    q = before.outgoing

    at : (es : List Sending) → Chain MailboxSends before.transport es after.transport → Flushes before.outgoing es answer after.outgoing
        → after.transport.waiting ≡ one_send before.outgoing
    at [] chain flushes =
        absurd (omega (arith, some, ap (λ (m : MailboxState). length m.waiting.bytes) chain, ap (λ (w : Queue). length w.bytes) empty))
    at (e ∷ es) chain flushes = by_count (nat_le (length before.outgoing.tokens) 28) refl
      where
        by_count : (b : Bool) → nat_le (length before.outgoing.tokens) 28 ≡ b → after.transport.waiting ≡ one_send before.outgoing
        by_count true is =
            let rest = all_leaves e es before.transport after.transport before.outgoing after.outgoing answer empty memory takes chain flushes (leb-true _ _ is) in
            let kept = flush_keeps_all before after answer f in
            sym (joined_nothing after.transport.waiting) ∙ ap (λ (w : Queue). joined after.transport.waiting w) (sym rest) ∙ kept.0
            ∙ ap (λ (w : Queue). joined w before.outgoing) empty
            ∙ sym (ap (λ (b : Bool). if b then before.outgoing else record { bytes = take 1 before.outgoing.bytes; tokens = take 28 before.outgoing.tokens }) is)
        by_count false is =
            one_leaves e es before.transport after.transport before.outgoing after.outgoing answer empty memory takes chain flushes (leb-false _ _ is)
            ∙ sym (ap (λ (b : Bool). if b then before.outgoing else record { bytes = take 1 before.outgoing.bytes; tokens = take 28 before.outgoing.tokens }) is)
