-- That a flush and a write lose nothing, and what a flush that ends leaves.
use Rattle.std.specs.Prelude.{◌≡◌, ◌≢◌, ℕ, ◌+◌, ◌*◌, ◌<◌, ◌≤◌, ◌⊎◌, List, [], ◌∷◌, ◌++◌, length, take, drop, nat_le, ◌==◌, true, false, MatchBool, MatchResult, Result, Ok, Err}
use Rattle.std.proofs.Common.{refl, sym, ◌∙◌, ap, subst, inl, inr, arith, append_assoc}
use Rattle.std.proofs.lemmas.Bool.{cases_Bool, ne_eqb, MatchBool-at_true, MatchBool-at_false, eqb-true, leb-true}
use Rattle.std.proofs.lemmas.List.{append-nil, take-append-le, take-append-drop, length-take, length-drop, drop-drop, drop_all}
use Rattle.wl_wire.specs.declared.argument.Token.{Token}
use Rattle.wl_wire.specs.declared.error.IoFault.{IoFault}
use Rattle.wl_wire.specs.declared.error.IoFault.TheVariants as fault
use Rattle.wl_wire.specs.Message.{WireMessage, size}
use Rattle.wl_link.specs.Exchange.{Queue, Sending, Chain, joined, nothing, IsWithinOffer}
use Rattle.wl_link.specs.Link.{LinkState, offer_size, offer_of, left_of, AfterSend, Flushes, FlushedBy, Flushed, Put, PlacedBy, WroteBy, Wrote, spelled, has_room, ignoring, needed, Wants, Grown}
use Rattle.wl_link.specs.NothingLost.{taken_by, taken, gone_by, gone, NoZero, LosesNothing, queued_by, Drains, FlushKeeps, FlushDrains, WriteKeeps}

take_within : (n m : ℕ) (xs : List ℕ) → n ≤ length (take m xs) → take n (take m xs) ≡ take n xs
take_within n m xs le = sym (take-append-le n (take m xs) (drop m xs) le) ∙ ap (λ (ys : List ℕ). take n ys) (take-append-drop m xs)

-- ---- a flush

-- what is gone, followed by what is left
pub record Parted (es : List Sending) (q after : Queue) : Type 0 where
  pub bytes : (taken es).bytes ++ after.bytes ≡ q.bytes
  pub tokens : gone es ++ after.tokens ≡ q.tokens

parted_last : (q after : Queue) → after ≡ q → Parted [] q after
parted_last q after same = record { bytes = ap (λ (x : Queue). x.bytes) same; tokens = ap (λ (x : Queue). x.tokens) same }

module _ (q after : Queue) (offer : Queue) (es : List Sending) (answer : Result (Unit {0}) IoFault) (is_offer : offer ≡ offer_of q) where
  offered_tokens : (rest : List Token) → offer.tokens ++ rest ≡ take 28 q.tokens ++ rest
  offered_tokens rest = ap (λ (o : Queue). o.tokens ++ rest) is_offer

  offered_bytes : (n : ℕ) → n ≤ length offer.bytes → take n offer.bytes ≡ take n q.bytes
  offered_bytes n le =
      let same : offer.bytes ≡ take (offer_size q.tokens) q.bytes = ap (λ (o : Queue). o.bytes) is_offer in
      ap (λ (ys : List ℕ). take n ys) same ∙ take_within n (offer_size q.tokens) q.bytes (omega (arith, ap length same))

  parted_zero : (n : ℕ) → n ≡ 0 → es ≡ [] → after ≡ left_of 0 q → Parted (record { offer = offer; answer = Ok n } ∷ es) q after
  parted_zero n zero last same =
      rw (zero, last, same)
      (record {
        bytes = refl;
        tokens = ap (λ (ts : List Token). ts ++ drop 28 q.tokens) (append-nil offer.tokens) ∙ offered_tokens (drop 28 q.tokens) ∙ take-append-drop 28 q.tokens;
      })

  parted_more : (n : ℕ) → n ≤ length offer.bytes → Parted es (left_of n q) after → Parted (record { offer = offer; answer = Ok n } ∷ es) q after
  parted_more n le others =
      record {
        bytes = append_assoc (take n offer.bytes) (taken es).bytes after.bytes ∙ ap (λ (ys : List ℕ). take n offer.bytes ++ ys) others.bytes
            ∙ ap (λ (ys : List ℕ). ys ++ drop n q.bytes) (offered_bytes n le) ∙ take-append-drop n q.bytes;
        tokens = append_assoc offer.tokens (gone es) after.tokens ∙ ap (λ (ts : List Token). offer.tokens ++ ts) others.tokens
            ∙ offered_tokens (drop 28 q.tokens) ∙ take-append-drop 28 q.tokens;
      }

  parted_once : (sent : Result ℕ IoFault) → ((n : ℕ) → sent ≡ Ok n → n ≤ length offer.bytes)
      → AfterSend sent (es ≡ []) (after ≡ q) (after ≡ left_of 0 q) answer (λ n. Flushes (left_of n q) es answer after)
      → ((n : ℕ) → Flushes (left_of n q) es answer after → Parted es (left_of n q) after)
      → Parted (record { offer = offer; answer = sent } ∷ es) q after
  parted_once (Err fault) within goes others = rw (goes.0) (rw goes.1 (record { bytes = refl; tokens = refl }))
  parted_once (Ok n) within goes others = at (cases_Bool (n == 0))
    where
      at : ((n == 0) ≡ true) ⊎ ((n == 0) ≡ false) → Parted (record { offer = offer; answer = Ok n } ∷ es) q after
      at (inl zero) = let g = MatchBool-at_true _ _ zero goes in parted_zero n (eqb-true n 0 zero) g.0 g.1
      at (inr more) = parted_more n (within n refl) (others n (MatchBool-at_false _ _ more goes))

pub flushes_parted : {T : Type 0} (sends : T → Queue → Result ℕ IoFault → T → Type 0) → IsWithinOffer sends
    → (t t' : T) (q after : Queue) (es : List Sending) (answer : Result (Unit {0}) IoFault)
    → Chain sends t es t' → Flushes q es answer after → Parted es q after
flushes_parted sends within t t' q after [] answer chain flushes = parted_last q after flushes.1
flushes_parted sends within t t' q after (e ∷ es) answer chain flushes =
    parted_once q after e.offer es answer flushes.1 e.answer
    (λ n is. within.law t chain.0 e.offer n (subst (λ (a : Result ℕ IoFault). sends t e.offer a chain.0) is chain.1))
    flushes.2 (λ n more. flushes_parted sends within chain.0 t' (left_of n q) after es answer chain.2 more)

kept_parted : (es : List Sending) (q after : Queue) → Parted es q after → LosesNothing es q nothing after
kept_parted es q after p = record { bytes = p.bytes ∙ sym (append-nil q.bytes); tokens = p.tokens ∙ sym (append-nil q.tokens) }

module _ {T : Type 0} (sends : T → Queue → Result ℕ IoFault → T → Type 0) (within : IsWithinOffer sends) where
  pub flush_kept : (before after : LinkState T) (es : List Sending) (answer : Result (Unit {0}) IoFault)
      → FlushedBy sends before es answer after → LosesNothing es before.outgoing nothing after.outgoing
  flush_kept before after es answer f =
      kept_parted es before.outgoing after.outgoing (flushes_parted sends within before.transport after.transport before.outgoing after.outgoing es answer f.0 f.1)

  pub flush_keeps : (before after : LinkState T) (answer : Result (Unit {0}) IoFault) → Flushed sends before answer after → FlushKeeps sends before answer after
  flush_keeps before after answer f = (f.0, f.1, flush_kept before after f.0 answer f.1)

-- ---- a write

kept_none : (q after : Queue) → after ≡ q → LosesNothing [] q nothing after
kept_none q after same = rw same (record { bytes = sym (append-nil q.bytes); tokens = sym (append-nil q.tokens) })

kept_put : (es : List Sending) (q middle added after : Queue) → LosesNothing es q nothing middle → after ≡ joined middle added → LosesNothing es q added after
kept_put es q middle added after kept same =
    rw same
    (record {
      bytes = sym (append_assoc (taken es).bytes middle.bytes added.bytes) ∙ ap (λ (ys : List ℕ). ys ++ added.bytes) (kept.bytes ∙ append-nil q.bytes);
      tokens = sym (append_assoc (gone es) middle.tokens added.tokens) ∙ ap (λ (ts : List Token). ts ++ added.tokens) (kept.tokens ∙ append-nil q.tokens);
    })

kept_still : (es : List Sending) (q middle after : Queue) → LosesNothing es q nothing middle → after ≡ middle → LosesNothing es q nothing after
kept_still es q middle after kept same = rw same kept

module _ {T : Type 0} (sends : T → Queue → Result ℕ IoFault → T → Type 0) (within : IsWithinOffer sends) (m : WireMessage) (after : LinkState T)
    (answer : Result (Unit {0}) IoFault) where
  put_kept : (es : List Sending) (q : Queue) (middle : LinkState T) → LosesNothing es q nothing middle.outgoing → Put middle m answer after
      → LosesNothing es q (queued_by answer m) after.outgoing
  put_kept es q middle kept (inl put) =
      subst (λ (a : Result (Unit {0}) IoFault). LosesNothing es q (queued_by a m) after.outgoing) (sym put.0)
      (kept_put es q middle.outgoing (spelled m) after.outgoing kept (ap (λ (l : LinkState T). l.outgoing) put.1))
  put_kept es q middle kept (inr refused) =
      subst (λ (a : Result (Unit {0}) IoFault). LosesNothing es q (queued_by a m) after.outgoing) (sym refused.0)
      (kept_still es q middle.outgoing after.outgoing kept (ap (λ (l : LinkState T). l.outgoing) refused.1))

  err_kept : (es : List Sending) (q : Queue) (middle : LinkState T) (fault : IoFault) → LosesNothing es q nothing middle.outgoing → answer ≡ Err fault → after ≡ middle
      → LosesNothing es q (queued_by answer m) after.outgoing
  err_kept es q middle fault kept is same =
      subst (λ (a : Result (Unit {0}) IoFault). LosesNothing es q (queued_by a m) after.outgoing) (sym is)
      (kept_still es q middle.outgoing after.outgoing kept (ap (λ (l : LinkState T). l.outgoing) same))

  flushed_kept : (es : List Sending) (q : Queue) (middle : LinkState T) (done : Result (Unit {0}) IoFault) → LosesNothing es q nothing middle.outgoing
      → MatchResult done
      (λ _. MatchBool (has_room middle (size m)) (Put middle m answer after) ((answer ≡ Err fault.TooBig) × (after ≡ middle)))
      (λ fault. (answer ≡ Err fault) × (after ≡ middle))
      → LosesNothing es q (queued_by answer m) after.outgoing
  flushed_kept es q middle (Ok u) kept rest = at (cases_Bool (has_room middle (size m)))
    where
      at : (has_room middle (size m) ≡ true) ⊎ (has_room middle (size m) ≡ false) → LosesNothing es q (queued_by answer m) after.outgoing
      at (inl room) = put_kept es q middle kept (MatchBool-at_true _ _ room rest)
      at (inr full) = let r = MatchBool-at_false _ _ full rest in err_kept es q middle fault.TooBig kept r.0 r.1
  flushed_kept es q middle (Err other) kept rest = err_kept es q middle other kept rest.0 rest.1

  placed_kept : (before : LinkState T) (es : List Sending) → PlacedBy sends before m es answer after → LosesNothing es before.outgoing (queued_by answer m) after.outgoing
  placed_kept before es placed = at (cases_Bool (has_room before (size m)))
    where
      at : (has_room before (size m) ≡ true) ⊎ (has_room before (size m) ≡ false) → LosesNothing es before.outgoing (queued_by answer m) after.outgoing
      at (inl room) =
          let p = MatchBool-at_true _ _ room placed in
          rw p.0 (put_kept [] before.outgoing before (kept_none before.outgoing before.outgoing refl) p.1)
      at (inr full) =
          let p = MatchBool-at_false _ _ full placed in
          flushed_kept es before.outgoing p.0 (ignoring p.1) (flush_kept sends within before p.0 es p.1 p.2) p.3

  pub write_kept : (before : LinkState T) (es : List Sending) → WroteBy sends before m es answer after → LosesNothing es before.outgoing (queued_by answer m) after.outgoing
  write_kept before es wrote = at (cases_Bool (nat_le (size m) 65535))
    where
      still : (fault : IoFault) → es ≡ [] → answer ≡ Err fault → after ≡ before → LosesNothing es before.outgoing (queued_by answer m) after.outgoing
      still fault none is same = rw none (err_kept [] before.outgoing before fault (kept_none before.outgoing before.outgoing refl) is same)

      at : (nat_le (size m) 65535 ≡ true) ⊎ (nat_le (size m) 65535 ≡ false) → LosesNothing es before.outgoing (queued_by answer m) after.outgoing
      at (inl small) = grows (MatchBool-at_true _ _ small wrote)
        where
          grows : ((es ≡ []) × (answer ≡ Err fault.OutOfMemory) × (after ≡ before) × Wants before.limit (needed before (size m)) before.outgoing_capacity)
              ⊎ ((grown : LinkState T) × Grown before (size m) grown × PlacedBy sends grown m es answer after)
              → LosesNothing es before.outgoing (queued_by answer m) after.outgoing
          grows (inl refused) = still fault.OutOfMemory refused.0 refused.1 refused.2
          grows (inr g) =
              subst (λ (q : Queue). LosesNothing es q (queued_by answer m) after.outgoing) (ap (λ (l : LinkState T). l.outgoing) g.1.1) (placed_kept g.0 es g.2)
      at (inr long) = let w = MatchBool-at_false _ _ long wrote in still fault.TooBig w.0 w.1 w.2

  pub write_keeps : (before : LinkState T) → Wrote sends before m answer after → WriteKeeps sends before m answer after
  write_keeps before w = (w.0, w.1, write_kept before w.0 w.1)

-- where no send answered 0 the tokens that are gone were taken
pub gone-taken : (es : List Sending) → NoZero es → gone es ≡ (taken es).tokens
gone-taken [] none = refl
gone-taken (e ∷ es) none = once e.answer none.0 (gone-taken es none.1)
  where
    once : (sent : Result ℕ IoFault) → sent ≢ Ok 0 → gone es ≡ (taken es).tokens → gone_by sent e.offer ++ gone es ≡ (taken_by sent e.offer).tokens ++ (taken es).tokens
    once (Ok n) not_zero others =
        let more : n ≢ 0 = λ zero. not_zero (ap (λ (k : ℕ). let a : Result ℕ IoFault = Ok k in a) zero) in
        rw (ne_eqb n 0 more) (ap (λ (ts : List Token). e.offer.tokens ++ ts) others)
    once (Err fault) not_zero others = others

-- ---- a flush that sends all bytes

-- how many tokens are left, step by step
tokens_left : (q : Queue) (n : ℕ) → 0 < n → n ≤ length (offer_of q).bytes
    → drop (28 * length (drop n q.bytes)) (drop 28 q.tokens) ≡ drop (28 * length q.bytes) q.tokens
tokens_left q n some within = drop-drop (28 * length (drop n q.bytes)) 28 q.tokens ∙ at (cases_Bool (nat_le (length q.tokens) 28))
  where
    at : (nat_le (length q.tokens) 28 ≡ true) ⊎ (nat_le (length q.tokens) 28 ≡ false)
        → drop (28 + 28 * length (drop n q.bytes)) q.tokens ≡ drop (28 * length q.bytes) q.tokens
    at (inl few) =
        let le : length q.tokens ≤ 28 = leb-true (length q.tokens) 28 few in
        drop_all (28 + 28 * length (drop n q.bytes)) q.tokens (omega arith)
        ∙ sym (drop_all (28 * length q.bytes) q.tokens (omega (arith, length-take (offer_size q.tokens) q.bytes)))
    at (inr many) =
        let one : offer_size q.tokens ≡ 1 = rw many refl in
        let n_one : n ≡ 1 = omega (arith, length-take (offer_size q.tokens) q.bytes) in
        ap (λ (k : ℕ). drop k q.tokens) (omega (arith, length-drop n q.bytes, length-take (offer_size q.tokens) q.bytes))

drains : {T : Type 0} (sends : T → Queue → Result ℕ IoFault → T → Type 0) → IsWithinOffer sends
    → (t t' : T) (q after : Queue) (es : List Sending) → Chain sends t es t' → Flushes q es (Ok tt) after → NoZero es
    → (after.bytes ≡ []) × (after.tokens ≡ drop (28 * length q.bytes) q.tokens)
drains sends within t t' q after [] chain flushes none = (
  ap (λ (x : Queue). x.bytes) flushes.1 ∙ flushes.0,
  let no_bytes : 0 ≡ 28 * length q.bytes = omega (arith, ap length flushes.0) in
      ap (λ (x : Queue). x.tokens) flushes.1 ∙ ap (λ (k : ℕ). drop k q.tokens) no_bytes,
)
drains sends within t t' q after (e ∷ es) chain flushes none =
    once e.answer none.0
    (λ n is. within.law t chain.0 e.offer n (subst (λ (a : Result ℕ IoFault). sends t e.offer a chain.0) is chain.1))
    flushes.2 (λ n more. drains sends within chain.0 t' (left_of n q) after es chain.2 more none.1)
  where
    once : (sent : Result ℕ IoFault) → sent ≢ Ok 0 → ((n : ℕ) → sent ≡ Ok n → n ≤ length e.offer.bytes)
        → AfterSend sent (es ≡ []) (after ≡ q) (after ≡ left_of 0 q) (Ok tt) (λ n. Flushes (left_of n q) es (Ok tt) after)
        → ((n : ℕ) → Flushes (left_of n q) es (Ok tt) after → (after.bytes ≡ []) × (after.tokens ≡ drop (28 * length (drop n q.bytes)) (drop 28 q.tokens)))
        → (after.bytes ≡ []) × (after.tokens ≡ drop (28 * length q.bytes) q.tokens)
    once (Err fault) not_zero le goes others = let e = goes.2 in absurd cc
    once (Ok n) not_zero le goes others =
        let more : n ≢ 0 = λ zero. not_zero (ap (λ (k : ℕ). let a : Result ℕ IoFault = Ok k in a) zero) in
        let left = others n (MatchBool-at_false _ _ (ne_eqb n 0 more) goes) in
        let bytes : e.offer.bytes ≡ (offer_of q).bytes = ap (λ (o : Queue). o.bytes) flushes.1 in
        (left.0, left.1 ∙ tokens_left q n (omega (arith, more)) (omega (arith, le n refl, ap length bytes)))

pub flush_drained : {T : Type 0} (sends : T → Queue → Result ℕ IoFault → T → Type 0) → IsWithinOffer sends
    → (before after : LinkState T) (es : List Sending) (answer : Result (Unit {0}) IoFault) → FlushedBy sends before es answer after
    → Drains es before.outgoing answer after.outgoing
flush_drained sends within before after es answer f done none =
    drains sends within before.transport after.transport before.outgoing after.outgoing es f.0
    (subst (λ (a : Result (Unit {0}) IoFault). Flushes before.outgoing es a after.outgoing) done f.1) none

pub flush_drains : {T : Type 0} (sends : T → Queue → Result ℕ IoFault → T → Type 0) → IsWithinOffer sends
    → (before after : LinkState T) (answer : Result (Unit {0}) IoFault) → Flushed sends before answer after → FlushDrains sends before answer after
flush_drains sends within before after answer f = (f.0, f.1, flush_drained sends within before after f.0 answer f.1)
