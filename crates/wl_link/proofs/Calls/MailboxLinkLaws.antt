-- That a link over a mailbox keeps what it receives and what it sends.
use Rattle.std.specs.Prelude.{◌≡◌, ℕ, zero, suc, Bool, true, false, Option, None, Some, List, [], ◌∷◌, ◌++◌, length, take, drop, ◌==◌, Result, Ok, Err}
use Rattle.std.proofs.Common.{refl, sym, ◌∙◌, ap, inl, inr, subst}
use Rattle.std.proofs.lemmas.Bool.{eqb-true, MatchBool-at_true, MatchBool-at_false}
use Rattle.std.proofs.lemmas.List.{take-append-drop}
use Rattle.wl_wire.specs.declared.error.IoFault.{IoFault}
use Rattle.wl_link.specs.Exchange.{Chain, Queue, Sending, joined}
use Rattle.wl_link.specs.Link.{LinkState, Filled, Flushed, Flushes, AfterSend, free_room, left_of, offer_of, offer_size, with_came}
use Rattle.wl_link.specs.Mailbox.{MailboxState, MailboxReceives, MailboxSends, answer_under, has_room}
use Rattle.wl_link.specs.MailboxCalls.{Received, received_by}
use Rattle.wl_link.specs.MailboxLink.{KeepsWhatCame, KeepsWhatGoes, still_to_read}
use Rattle.wl_link.proofs.Calls.MailboxLaws.{receive_keeps, send_keeps}
use Rattle.wl_link.proofs.Calls.QueueLaws.{joined_assoc, joined_nothing, queue_is}

-- ---- a receive

came_is : (before : Queue) (room : ℕ) (r : Result Queue IoFault) → with_came before r ≡ joined before (received_by (Received room r))
came_is before room (Ok came) = refl
came_is before room (Err fault) = sym (joined_nothing before)

pub fill_keeps : (before after : LinkState MailboxState) (answer : Result (Unit {0}) IoFault) → Filled MailboxReceives before answer after → KeepsWhatCame before after
fill_keeps before after answer (inr (refused, same, asks)) = (
  ap still_to_read same,
  ap (λ (l : LinkState MailboxState). l.outgoing) same,
  ap (λ (l : LinkState MailboxState). l.transport.waiting) same,
)
fill_keeps before after answer (inl filled) =
    let received = filled.0 in
    let is = filled.1.2 in
    let kept = receive_keeps before.transport after.transport (free_room before) received filled.1.0 in
    let came : Queue = received_by (Received (free_room before) received) in (
      ap (λ (q : Queue). joined q after.transport.arrived) (ap (λ (l : LinkState MailboxState). l.incoming) is ∙ came_is before.incoming (free_room before) received)
          ∙ joined_assoc before.incoming came after.transport.arrived
          ∙ ap (λ (q : Queue). joined before.incoming q) (kept.0 ∙ joined_nothing before.transport.arrived),
      ap (λ (l : LinkState MailboxState). l.outgoing) is,
      kept.1,
    )

-- ---- a flush

cut : (k : ℕ) (bs : List ℕ) → take k bs ++ drop (length (take k bs)) bs ≡ bs
cut zero bs = refl
cut (suc k) [] = refl
cut (suc k) (b ∷ bs) = ap (λ (xs : List ℕ). b ∷ xs) (cut k bs)

-- what is offered, and then what is left if all of it is taken
offered_and_left : (q : Queue) (n : ℕ) → n ≡ length (offer_of q).bytes → joined (offer_of q) (left_of n q) ≡ q
offered_and_left q n all =
    queue_is _ _
    (ap (λ (k : ℕ). take (offer_size q.tokens) q.bytes ++ drop k q.bytes) all ∙ cut (offer_size q.tokens) q.bytes)
    (take-append-drop 28 q.tokens)

answers_all : (send_fault : Option IoFault) (room : Bool) (offered n : ℕ) → Ok n ≡ answer_under send_fault room offered → n ≡ offered
answers_all None true offered n e = cc
answers_all None false offered n e = absurd cc
answers_all (Some fault) room offered n e = absurd cc

takes_all : (before after : MailboxState) (offer : Queue) (n : ℕ) → MailboxSends before offer (Ok n) after → n ≡ length offer.bytes
takes_all before after offer n (inl s) = answers_all before.send_fault (has_room before offer) (length offer.bytes) n s.0
takes_all before after offer n (inr s) = let e = s.0 in absurd cc

-- the mailbox takes what it is offered, and the rest is kept
taken_and_kept : (m mid m' : MailboxState) (offer q q' left : Queue) → mid.waiting ≡ joined m.waiting offer → joined offer left ≡ q
    → joined m'.waiting q' ≡ joined mid.waiting left → joined m'.waiting q' ≡ joined m.waiting q
taken_and_kept m mid m' offer q q' left took whole rest =
    rest ∙ ap (λ (w : Queue). joined w left) took ∙ joined_assoc m.waiting offer left ∙ ap (λ (x : Queue). joined m.waiting x) whole

abbrev KeepsAll : MailboxState → Queue → MailboxState → Queue → Type 0
KeepsAll m q m' q' = (joined m'.waiting q' ≡ joined m.waiting q) × (m'.arrived ≡ m.arrived)

-- nothing was sent after this, and this is left
ends_here : (mid m' : MailboxState) (es : List Sending) → es ≡ [] → Chain MailboxSends mid es m' → m' ≡ mid
ends_here mid m' es none chain = subst (λ (fs : List Sending). Chain MailboxSends mid fs m') none chain

-- a send that was answered, with what follows it
once : (m mid m' : MailboxState) (e : Sending) (es : List Sending) (q q' : Queue) (answer : Result (Unit {0}) IoFault) (n : ℕ) (z : Bool) → (n == 0) ≡ z
    → e.offer ≡ offer_of q → MailboxSends m e.offer (Ok n) mid → Chain MailboxSends mid es m'
    → AfterSend (Ok n) (es ≡ []) (q' ≡ q) (q' ≡ left_of 0 q) answer (λ k. Flushes (left_of k q) es answer q')
    → (Flushes (left_of n q) es answer q' → KeepsAll mid (left_of n q) m' q') → KeepsAll m q m' q'
once m mid m' e es q q' answer n z is offered sends chain after others =
    let kept = send_keeps m mid e.offer (Ok n) sends in
    let all : n ≡ length (offer_of q).bytes = takes_all m mid e.offer n sends ∙ ap (λ (x : Queue). length x.bytes) offered in
    let took : mid.waiting ≡ joined m.waiting (offer_of q) = kept.1 ∙ ap (λ (x : Queue). joined m.waiting x) offered in
    at n z is (offered_and_left q n all) kept.0 took after others
  where
    at : (n : ℕ) (z : Bool) → (n == 0) ≡ z → joined (offer_of q) (left_of n q) ≡ q → mid.arrived ≡ m.arrived → mid.waiting ≡ joined m.waiting (offer_of q)
        → AfterSend (Ok n) (es ≡ []) (q' ≡ q) (q' ≡ left_of 0 q) answer (λ k. Flushes (left_of k q) es answer q')
        → (Flushes (left_of n q) es answer q' → KeepsAll mid (left_of n q) m' q') → KeepsAll m q m' q'
    at n false is whole same took after others =
        let rest = others (MatchBool-at_false _ _ is after) in
        (taken_and_kept m mid m' (offer_of q) q q' (left_of n q) took whole rest.0, rest.1 ∙ same)
    at n true is whole same took after others =
        let ended = MatchBool-at_true _ _ is after in
        let last : m' ≡ mid = ends_here mid m' es ended.0 chain in
        let left : q' ≡ left_of n q = ended.1 ∙ ap (λ (k : ℕ). left_of k q) (sym (eqb-true n 0 is)) in
        let here : joined m'.waiting q' ≡ joined mid.waiting (left_of n q)
        = ap (λ (x : MailboxState). joined x.waiting q') last ∙ ap (λ (x : Queue). joined mid.waiting x) left in
        (taken_and_kept m mid m' (offer_of q) q q' (left_of n q) took whole here, ap (λ (x : MailboxState). x.arrived) last ∙ same)

-- a send that was refused is the last one
refused : (m mid m' : MailboxState) (e : Sending) (es : List Sending) (q q' : Queue) (answer : Result (Unit {0}) IoFault) (fault : IoFault)
    → MailboxSends m e.offer (Err fault) mid → Chain MailboxSends mid es m' → (es ≡ []) × (q' ≡ q) × (answer ≡ Err fault) → KeepsAll m q m' q'
refused m mid m' e es q q' answer fault sends chain ended =
    let kept = send_keeps m mid e.offer (Err fault) sends in
    let last : m' ≡ mid = ends_here mid m' es ended.0 chain in (
      ap (λ (x : MailboxState). joined x.waiting q') last ∙ ap (λ (x : Queue). joined mid.waiting x) ended.1
          ∙ ap (λ (x : Queue). joined x q) (kept.1 ∙ joined_nothing m.waiting),
      ap (λ (x : MailboxState). x.arrived) last ∙ kept.0,
    )

flushes_keep : (es : List Sending) (m m' : MailboxState) (q q' : Queue) (answer : Result (Unit {0}) IoFault)
    → Chain MailboxSends m es m' → Flushes q es answer q' → KeepsAll m q m' q'
flushes_keep [] m m' q q' answer chain flushes = (
  ap (λ (x : MailboxState). joined x.waiting q') chain ∙ ap (λ (x : Queue). joined m.waiting x) flushes.1,
  ap (λ (x : MailboxState). x.arrived) chain,
)
flushes_keep (e ∷ es) m m' q q' answer chain flushes =
    at e.answer refl (λ n more. flushes_keep es chain.0 m' (left_of n q) q' answer chain.2 more)
  where
    at : (a : Result ℕ IoFault) → e.answer ≡ a → ((n : ℕ) → Flushes (left_of n q) es answer q' → KeepsAll chain.0 (left_of n q) m' q') → KeepsAll m q m' q'
    at (Err fault) is others =
        refused m chain.0 m' e es q q' answer fault (subst (λ (x : Result ℕ IoFault). MailboxSends m e.offer x chain.0) is chain.1) chain.2
        (subst (λ (x : Result ℕ IoFault). AfterSend x (es ≡ []) (q' ≡ q) (q' ≡ left_of 0 q) answer (λ n. Flushes (left_of n q) es answer q')) is flushes.2)
    at (Ok n) is others =
        once m chain.0 m' e es q q' answer n (n == 0) refl flushes.1 (subst (λ (x : Result ℕ IoFault). MailboxSends m e.offer x chain.0) is chain.1) chain.2
        (subst (λ (x : Result ℕ IoFault). AfterSend x (es ≡ []) (q' ≡ q) (q' ≡ left_of 0 q) answer (λ k. Flushes (left_of k q) es answer q')) is flushes.2)
        (others n)

pub flush_keeps_all : (before after : LinkState MailboxState) (answer : Result (Unit {0}) IoFault) → Flushed MailboxSends before answer after → KeepsWhatGoes before after
flush_keeps_all before after answer f =
    let kept = flushes_keep f.0 before.transport after.transport before.outgoing after.outgoing answer f.1.0 f.1.1 in
    (kept.0, ap (λ (l : LinkState MailboxState). l.incoming) f.1.2, kept.1)
