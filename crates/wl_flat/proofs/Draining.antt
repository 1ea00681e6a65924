-- What a flush to a mailbox leaves: no bytes, or the mailbox takes none of them.
use Rattle.std.proofs.Common.{◌≡◌, ◌≢◌, ℕ, Bool, true, false, ◌==◌, ◌⊎◌, inl, inr, List, [], ◌∷◌, length, take, Option, None, Some, Result, Ok, Err, refl, ap, sym, subst, ◌∙◌, true≢false, arith}
use Rattle.std.proofs.lemmas.Bool.{eqb-true}
use Rattle.std.proofs.lemmas.List.{length-take}
use Rattle.std.specs.Prelude.{MatchBool, if◌then◌else◌, is_err, nat_le}
use Rattle.wl_wire.specs.declared.error.IoFault.{IoFault}
use Rattle.wl_wire.specs.declared.error.IoFault.TheVariants as fault
use Rattle.wl_link.specs.Exchange.{Chain, Queue, Sending}
use Rattle.wl_link.specs.Link.{AfterSend, Flushed, Flushes, LinkState, left_of, offer_of}
use Rattle.wl_link.specs.Mailbox.{MailboxSends, MailboxState, answer_under, kept_by, mailbox_answer}
use Rattle.wl_link.specs.Puts.{lacks_memory}

-- a send that succeeds takes all
answer_length : (o : Option IoFault) (room : Bool) (k n : ℕ) → Ok n ≡ answer_under o room k → n ≡ k
answer_length None true k n e = cc
answer_length None false k n e = absurd cc
answer_length (Some f) room k n e = absurd cc

-- and that is a byte at least
takes_some : (b : Bool) (bytes : List ℕ) → bytes ≢ [] → length (take (if b then 4096 else 1) bytes) ≢ 0
takes_some b [] some e = some refl
takes_some true (x ∷ bytes) some e =
    let k = length-take 4096 (x ∷ bytes) in absurd (omega (arith, k, e))
takes_some false (x ∷ bytes) some e =
    let k = length-take 1 (x ∷ bytes) in absurd (omega (arith, k, e))

sends_none : (m m' : MailboxState) (q : Queue) (n : ℕ) → q.bytes ≢ [] → n ≡ 0 → MailboxSends m (offer_of q) (Ok n) m' → ⊥
sends_none m m' q n some zero (inl (a, same)) =
    takes_some (nat_le (length q.tokens) 28) q.bytes some (sym (answer_length m.send_fault _ (length (offer_of q).bytes) n a) ∙ zero)
sends_none m m' q n some zero (inr (a, same, is, offers)) = absurd cc

-- a send that fails changes nothing
sends_err : (m m' : MailboxState) (o : Queue) (f : IoFault) → f ≢ fault.OutOfMemory → MailboxSends m o (Err f) m' → (mailbox_answer m o ≡ Err f) × (m' ≡ m)
sends_err m m' o f other (inl (a, same)) = (sym a, same ∙ ap (λ (r : Result ℕ IoFault). let s : MailboxState = record m { waiting = kept_by r m.waiting o } in s) (sym a))
sends_err m m' o f other (inr (a, same, is, offers)) = let e : f ≡ fault.OutOfMemory = cc in absurd (other e)

-- no bytes wait, or the mailbox takes none of them
abbrev pub AreDrained : MailboxState → Queue → Type 0
AreDrained m q = (q.bytes ≡ []) ⊎ (is_err (mailbox_answer m (offer_of q)) ≡ true)

drained : (es : List Sending) (m m' : MailboxState) (q q' : Queue) (answer : Result (Unit {0}) IoFault) → Chain MailboxSends m es m' → Flushes q es answer q'
    → answer ≢ Err fault.OutOfMemory → AreDrained m' q'
drained [] m m' q q' answer chain (none, same, is) other = inl (ap (λ (x : Queue). x.bytes) same ∙ none)
drained (e ∷ es) m m' q q' answer (mid, sends, chain) (some, offer, ends) other =
    by e.answer (subst (λ (o : Queue). MailboxSends m o e.answer mid) offer sends) ends (λ n more. drained es mid m' (left_of n q) q' answer chain more other)
  where
    by : (r : Result ℕ IoFault) → MailboxSends m (offer_of q) r mid
        → AfterSend r (es ≡ []) (q' ≡ q) (q' ≡ left_of 0 q) answer (λ n. Flushes (left_of n q) es answer q')
        → ((n : ℕ) → Flushes (left_of n q) es answer q' → AreDrained m' q') → AreDrained m' q'
    by (Err f) s (last, same, is) on =
        let k = sends_err m mid (offer_of q) f (λ x. other (is ∙ ap (λ (y : IoFault). let r : Result (Unit {0}) IoFault = Err y in r) x)) s in
        let end : m' ≡ mid = subst (λ (xs : List Sending). Chain MailboxSends mid xs m') last chain in
        inr (ap is_err (ap (λ x. mailbox_answer x (offer_of q')) (end ∙ k.1) ∙ (ap (λ x. mailbox_answer m (offer_of x)) same ∙ k.0)))
    by (Ok n) s h on = split (n == 0) refl h
      where
        split : (z : Bool) → (n == 0) ≡ z → MatchBool z ((es ≡ []) × (q' ≡ left_of 0 q) × (answer ≡ Ok tt)) (Flushes (left_of n q) es answer q') → AreDrained m' q'
        split false z h = on n h
        split true z h = absurd (sends_none m mid q n some (eqb-true n 0 z) s)

-- so it is after a flush for which there was memory
pub link_drained : (l l' : LinkState MailboxState) (answer : Result (Unit {0}) IoFault) → Flushed MailboxSends l answer l' → lacks_memory answer ≡ false → AreDrained l'.transport l'.outgoing
link_drained l l' answer (es, (chain, flushes, after)) memory =
    drained es l.transport l'.transport l.outgoing l'.outgoing answer chain flushes (λ e. true≢false (sym (ap lacks_memory e) ∙ memory))
