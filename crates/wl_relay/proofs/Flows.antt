-- What is taken out of a link over a mailbox was the first that was to be sent, and what is written is the last.
use Rattle.std.specs.Prelude.{◌≡◌, ◌≢◌, ℕ, zero, suc, ◌<◌, ◌⊎◌, Bool, true, false, List, [], ◌∷◌, ◌++◌, length, nat_le, take, ◌==◌, if◌then◌else◌, Option, None, Some, Result, Ok, Err, OnErr, MatchBool, MatchResult}
use Rattle.std.proofs.Common.{ap, arith, inl, inr, refl, subst, sym, ◌∙◌}
use Rattle.std.proofs.lemmas.Bool.{MatchBool-at_false, MatchBool-at_true, cases_Bool, eqb-true, ne_eqb}
use Rattle.std.proofs.lemmas.List.{drop_all}
use Rattle.wl_wire.specs.declared.argument.Token.{Token}
use Rattle.wl_wire.specs.declared.error.IoFault.{IoFault}
use Rattle.wl_wire.specs.declared.error.IoFault.TheVariants as fault
use Rattle.wl_wire.specs.Message.{WireMessage, size}
use Rattle.wl_link.specs.Exchange.{Chain, Queue, Sending, joined, nothing}
use Rattle.wl_link.specs.Link.{LinkState, AfterSend, Flushed, Flushes, Grown, PlacedBy, Put, Wants, Wrote, ignoring, left_of, needed, offer_of, offer_size, spelled, with_outgoing, with_transport}
use Rattle.wl_link.specs.Link.{has_room as room_of}
use Rattle.wl_link.specs.Mailbox.{MailboxState, MailboxSends, answer_under, behind, has_room}
use Rattle.wl_link.specs.MailboxLink.{still_to_read, still_to_send}
use Rattle.wl_link.proofs.Calls.MailboxLinkLaws.{flush_keeps_all}
use Rattle.wl_link.proofs.Calls.QueueLaws.{joined_assoc, queue_is}
use Rattle.wl_relay.specs.Flow.{GivesOut}

-- if all bytes are taken off, and there are some, nothing is left
none_left : (w : Queue) (n : ℕ) → n ≡ length w.bytes → 0 < length w.bytes → behind n w ≡ nothing
none_left w n all some =
    let zero : (n == 0) ≡ false = ne_eqb n 0 (λ e. absurd (omega (arith, all, some, e))) in
    queue_is _ _ (drop_all n w.bytes (omega (arith, all))) (ap (λ (z : Bool). if z then w.tokens else []) zero)

pub given_out : (l : LinkState MailboxState) (m : MailboxState) (bytes : List ℕ) (tokens : List Token) (n : ℕ)
    → bytes ≡ l.transport.waiting.bytes → tokens ≡ l.transport.waiting.tokens → n ≡ length bytes → 0 < length l.transport.waiting.bytes
    → m ≡ record l.transport { waiting = behind n l.transport.waiting } → GivesOut l (record { bytes = bytes; tokens = tokens }) (with_transport l m)
given_out l m bytes tokens n bytes_are tokens_are all some is =
    let none : behind n l.transport.waiting ≡ nothing = none_left l.transport.waiting n (all ∙ ap length bytes_are) some in
    let out : Queue = record { bytes = bytes; tokens = tokens } in (
      ap (λ (x : MailboxState). joined out (joined x.waiting l.outgoing)) is
          ∙ ap (λ (q : Queue). joined out (joined q l.outgoing)) none
          ∙ ap (λ (q : Queue). joined q l.outgoing) (queue_is out l.transport.waiting bytes_are tokens_are),
      ap (λ (x : MailboxState). joined l.incoming x.arrived) is,
    )

pub none_out : (l : LinkState MailboxState) (m : MailboxState) (n : ℕ) → n ≡ length l.transport.waiting.bytes → 0 < length l.transport.waiting.bytes
    → m ≡ record l.transport { waiting = behind n l.transport.waiting } → (with_transport l m).transport.waiting ≡ nothing
none_out l m n all some is = ap (λ (x : MailboxState). x.waiting) is ∙ none_left l.transport.waiting n all some

pub flushed_gives_nothing : (before after : LinkState MailboxState) (answer : Result (Unit {0}) IoFault) → Flushed MailboxSends before answer after
    → GivesOut before nothing after
flushed_gives_nothing before after answer flushed =
    let kept = flush_keeps_all before after answer flushed in
    (kept.0, ap (λ (q : Queue). joined q after.transport.arrived) kept.1 ∙ ap (λ (q : Queue). joined before.incoming q) kept.2)

pub gives_after : (before mid after : LinkState MailboxState) (out : Queue) → GivesOut before nothing mid → GivesOut mid out after → GivesOut before out after
gives_after before mid after out one two = (two.0 ∙ one.0, two.1 ∙ one.1)

pub on_err_of : {A E : Type 0} (r : Result A E) (P : Type 0) → P → OnErr r P
on_err_of (Ok x) P p = tt
on_err_of (Err e) P p = p

-- ---- a flush that is done leaves no bytes

answers_all : (send_fault : Option IoFault) (room : Bool) (offered n : ℕ) → Ok n ≡ answer_under send_fault room offered → n ≡ offered
answers_all None true offered n e = cc
answers_all None false offered n e = absurd cc
answers_all (Some fault) room offered n e = absurd cc

takes_all : (before after : MailboxState) (offer : Queue) (n : ℕ) → MailboxSends before offer (Ok n) after → n ≡ length offer.bytes
takes_all before after offer n (inl s) = answers_all before.send_fault (has_room before offer) (length offer.bytes) n s.0
takes_all before after offer n (inr s) = let e = s.0 in absurd cc

pub some_taken : (k : ℕ) (bs : List ℕ) → 0 < k → length (take k bs) ≡ 0 → bs ≡ []
some_taken zero bs some none = absurd (omega arith)
some_taken (suc k) [] some none = refl
some_taken (suc k) (b ∷ bs) some none = absurd (omega (arith, none))

pub offers_some : (tokens : List Token) → 0 < offer_size tokens
offers_some tokens = elim (nat_le (length tokens) 28) as (λ b. 0 < (if b then 4096 else 1)) [ true ↦ omega arith | false ↦ omega arith ]

drained : (es : List Sending) (m m' : MailboxState) (q q' : Queue) (answer : Result (Unit {0}) IoFault)
    → Chain MailboxSends m es m' → Flushes q es answer q' → answer ≡ Ok tt → q'.bytes ≡ []
drained [] m m' q q' answer chain flushes done = ap (λ (x : Queue). x.bytes) flushes.1 ∙ flushes.0
drained (e ∷ es) m m' q q' answer chain flushes done =
    at e.answer refl (λ n more. drained es chain.0 m' (left_of n q) q' answer chain.2 more done)
  where
    counted : (n : ℕ) (z : Bool) → (n == 0) ≡ z → e.answer ≡ Ok n
        → AfterSend (Ok n) (es ≡ []) (q' ≡ q) (q' ≡ left_of 0 q) answer (λ k. Flushes (left_of k q) es answer q')
        → (Flushes (left_of n q) es answer q' → q'.bytes ≡ []) → q'.bytes ≡ []
    counted n false is answered after others = others (MatchBool-at_false _ _ is after)
    counted n true is answered after others =
        let all : n ≡ length (offer_of q).bytes
        = takes_all m chain.0 e.offer n (subst (λ (x : Result ℕ IoFault). MailboxSends m e.offer x chain.0) answered chain.1) ∙ ap (λ (x : Queue). length x.bytes) flushes.1 in
        absurd (flushes.0 (some_taken (offer_size q.tokens) q.bytes (offers_some q.tokens) (sym all ∙ eqb-true n 0 is)))

    at : (a : Result ℕ IoFault) → e.answer ≡ a → ((n : ℕ) → Flushes (left_of n q) es answer q' → q'.bytes ≡ []) → q'.bytes ≡ []
    at (Err fault) is others =
        let ended = subst (λ (x : Result ℕ IoFault). AfterSend x (es ≡ []) (q' ≡ q) (q' ≡ left_of 0 q) answer (λ n. Flushes (left_of n q) es answer q')) is flushes.2 in
        let refused : answer ≡ Err fault = ended.2 in
        absurd cc
    at (Ok n) is others =
        counted n (n == 0) refl is
        (subst (λ (x : Result ℕ IoFault). AfterSend x (es ≡ []) (q' ≡ q) (q' ≡ left_of 0 q) answer (λ k. Flushes (left_of k q) es answer q')) is flushes.2)
        (others n)

-- then nothing was to be sent, if nothing waits in the mailbox after it
pub nothing_to_send : (before after : LinkState MailboxState) (answer : Result (Unit {0}) IoFault) → Flushed MailboxSends before answer after
    → answer ≡ Ok tt → after.transport.waiting.bytes ≡ [] → (still_to_send before).bytes ≡ []
nothing_to_send before after answer f done empty =
    let kept = flush_keeps_all before after answer f in
    ap (λ (q : Queue). q.bytes) (sym kept.0)
    ∙ ap (λ (bs : List ℕ). bs ++ after.outgoing.bytes) empty
    ∙ drained f.0 before.transport after.transport before.outgoing after.outgoing answer f.1.0 f.1.1 done

-- and nothing was changed
nothing_behind : (xs ys : List ℕ) → xs ++ ys ≡ [] → ys ≡ []
nothing_behind [] ys e = e
nothing_behind (x ∷ xs) ys e = absurd cc

pub nothing_changed : (before after : LinkState MailboxState) (answer : Result (Unit {0}) IoFault) → Flushed MailboxSends before answer after
    → answer ≡ Ok tt → after.transport.waiting.bytes ≡ [] → after ≡ before
nothing_changed before after answer f done empty = at f.0 f.1.0 f.1.1
  where
    none : before.outgoing.bytes ≡ []
    none = nothing_behind before.transport.waiting.bytes before.outgoing.bytes (nothing_to_send before after answer f done empty)

    at : (es : List Sending) → Chain MailboxSends before.transport es after.transport → Flushes before.outgoing es answer after.outgoing → after ≡ before
    at [] chain flushes =
        f.1.2 ∙ ap (λ (m : MailboxState). with_outgoing before m after.outgoing) chain
        ∙ ap (λ (q : Queue). with_outgoing before before.transport q) flushes.1
    at (e ∷ es) chain flushes = absurd (flushes.0 none)

-- ---- a flush that is not done had bytes

pub flush_had_bytes : (before after : LinkState MailboxState) (answer : Result (Unit {0}) IoFault) → Flushed MailboxSends before answer after
    → ¬ (answer ≡ Ok tt) → (still_to_send before).bytes ≢ []
flush_had_bytes before after answer f failed none = at f.0 f.1.1
  where
    at : (es : List Sending) → Flushes before.outgoing es answer after.outgoing → ⊥
    at [] flushes = failed flushes.2
    at (e ∷ es) flushes = flushes.0 (nothing_behind before.transport.waiting.bytes before.outgoing.bytes none)

pub nothing_before : (xs ys : List ℕ) → xs ++ ys ≡ [] → xs ≡ []
nothing_before [] ys e = refl
nothing_before (x ∷ xs) ys e = absurd cc

pub ready_had_bytes : (before after : LinkState MailboxState) (answer : Result (Unit {0}) IoFault) → Flushed MailboxSends before answer after
    → 0 < length after.transport.waiting.bytes → (still_to_send before).bytes ≢ []
ready_had_bytes before after answer f some none =
    let kept = flush_keeps_all before after answer f in
    let empty = nothing_before after.transport.waiting.bytes after.outgoing.bytes (ap (λ (q : Queue). q.bytes) kept.0 ∙ none) in
    omega (arith, some, ap (λ (bs : List ℕ). length bs) empty)

-- ---- a write that is answered by Ok adds the message to what is to be sent

-- this is added to what is to be sent, and what came is not touched
abbrev pub Adds : LinkState MailboxState → WireMessage → LinkState MailboxState → Type 0
Adds before m after = (still_to_send after ≡ joined (still_to_send before) (spelled m)) × (still_to_read after ≡ still_to_read before)

put_adds : (before after : LinkState MailboxState) (m : WireMessage) (u : Unit {0}) → Put before m (Ok u) after → Adds before m after
put_adds before after m u (inl put) = (
  ap still_to_send put.1 ∙ sym (joined_assoc before.transport.waiting before.outgoing (spelled m)),
  ap still_to_read put.1,
)
put_adds before after m u (inr refused) = let e = refused.0 in absurd cc

adds_after : (before mid after : LinkState MailboxState) (m : WireMessage) → still_to_send mid ≡ still_to_send before → still_to_read mid ≡ still_to_read before
    → Adds mid m after → Adds before m after
adds_after before mid after m sends reads adds = (adds.0 ∙ ap (λ (q : Queue). joined q (spelled m)) sends, adds.1 ∙ reads)

module _ (m : WireMessage) (after : LinkState MailboxState) (u : Unit {0}) where
  flushed_adds : (mid : LinkState MailboxState) (done : Result (Unit {0}) IoFault)
      → MatchResult done
      (λ _. MatchBool (room_of mid (size m)) (Put mid m (Ok u) after) ((Ok u ≡ Err fault.TooBig) × (after ≡ mid)))
      (λ e. (Ok u ≡ Err e) × (after ≡ mid))
      → Adds mid m after
  flushed_adds mid (Ok v) rest = at (cases_Bool (room_of mid (size m)))
    where
      at : (room_of mid (size m) ≡ true) ⊎ (room_of mid (size m) ≡ false) → Adds mid m after
      at (inl room) = put_adds mid after m u (MatchBool-at_true _ _ room rest)
      at (inr full) = let r = MatchBool-at_false _ _ full rest in let e = r.0 in absurd cc
  flushed_adds mid (Err other) rest = let e = rest.0 in absurd cc

  placed_adds : (before : LinkState MailboxState) (es : List Sending) → PlacedBy MailboxSends before m es (Ok u) after → Adds before m after
  placed_adds before es placed = at (cases_Bool (room_of before (size m)))
    where
      at : (room_of before (size m) ≡ true) ⊎ (room_of before (size m) ≡ false) → Adds before m after
      at (inl room) = let p = MatchBool-at_true _ _ room placed in put_adds before after m u p.1
      at (inr full) =
          let p = MatchBool-at_false _ _ full placed in
          let kept = flush_keeps_all before p.0 p.1 (es, p.2) in
          adds_after before p.0 after m kept.0
          (ap (λ (q : Queue). joined q p.0.transport.arrived) kept.1 ∙ ap (λ (q : Queue). joined before.incoming q) kept.2)
          (flushed_adds p.0 (ignoring p.1) p.3)

  pub write_adds : (before : LinkState MailboxState) → Wrote MailboxSends before m (Ok u) after → Adds before m after
  write_adds before wrote = at (cases_Bool (nat_le (size m) 65535))
    where
      at : (nat_le (size m) 65535 ≡ true) ⊎ (nat_le (size m) 65535 ≡ false) → Adds before m after
      at (inl small) = grows (MatchBool-at_true _ _ small wrote.1)
        where
          grows : ((wrote.0 ≡ []) × (Ok u ≡ Err fault.OutOfMemory) × (after ≡ before) × Wants before.limit (needed before (size m)) before.outgoing_capacity)
              ⊎ ((grown : LinkState MailboxState) × Grown before (size m) grown × PlacedBy MailboxSends grown m wrote.0 (Ok u) after)
              → Adds before m after
          grows (inl refused) = let e = refused.1 in absurd cc
          grows (inr g) =
              adds_after before g.0 after m (ap still_to_send g.1.1) (ap still_to_read g.1.1) (placed_adds g.0 wrote.0 g.2)
      at (inr long) = let w = MatchBool-at_false _ _ long wrote.1 in let e = w.1 in absurd cc
