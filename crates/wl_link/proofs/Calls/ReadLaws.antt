-- What a read gives.
use Rattle.std.specs.Prelude.{◌≡◌, ◌≢◌, ℕ, ◌<◌, ◌≤◌, ◌⊎◌, List, [], ◌∷◌, ◌++◌, length, nat_le, true, false, Option, Some, None, Result, Ok, Err}
use Rattle.std.proofs.Common.{refl, sym, ◌∙◌, ap, subst, inl, inr, arith, append_assoc, length-append}
use Rattle.std.proofs.lemmas.Bool.{le-leb, leb-false, cases_Bool, MatchBool-at_true, MatchBool-at_false}
use Rattle.wl_wire.specs.declared.argument.ArgumentType.{ArgumentType}
use Rattle.wl_wire.specs.declared.argument.Token.{Token}
use Rattle.wl_wire.specs.declared.error.MessageParseError.{MessageParseError}
use Rattle.wl_wire.specs.declared.error.MessageParseError.TheVariants as errors
use Rattle.wl_wire.specs.Argument.{WireArgument}
use Rattle.wl_wire.specs.Message.{WireMessage, token, tokens}
use Rattle.wl_wire.specs.Reading.{Reads}
use Rattle.wl_wire.proofs.Spelling.CursorLaws.{reads_tokens}
use Rattle.wl_wire.proofs.Spelling.RoundTrip.{one_message_lem}
use Rattle.wl_wire.specs.Parse.{sender_of, opcode_of, payload_of, fd_count, IsWhole, ReadsMessage, RefusesMessage}
use Rattle.wl_link.specs.Link.{LinkState, ReadUnder, ReadFound, ReadOne}
use Rattle.wl_link.specs.Outcome.{SameRead}

-- the answer under the signature that the look-up has is the read's
pub reads_one : {T : Type 0} (looks_up : ℕ → ℕ → Option (List ArgumentType) → Type 0) (before after : LinkState T) (answer : Result WireMessage MessageParseError)
    (bytes : List ℕ) (sender opcode : ℕ) (signature : List ArgumentType) → bytes ≡ before.incoming.bytes → 8 ≤ length bytes
    → sender ≡ sender_of bytes → opcode ≡ opcode_of bytes → looks_up sender opcode (Some signature)
    → ReadUnder signature before answer after → ReadOne looks_up before answer after
reads_one looks_up before after answer bytes sender opcode signature waits header from as_opcode found under =
    let there : 8 ≤ length before.incoming.bytes = rw (← waits) header in
    let looked : looks_up (sender_of before.incoming.bytes) (opcode_of before.incoming.bytes) (Some signature) = rw (← waits, ← from, ← as_opcode) found in
    rw (le-leb 8 (length before.incoming.bytes) there) (Some signature, looked, under)

-- the answer under a signature is the read's, if each message has this signature
pub reads_under : {T : Type 0} (signature : List ArgumentType) (before after : LinkState T) (answer : Result WireMessage MessageParseError)
    → ReadUnder signature before answer after → ReadOne (λ _ _ found. found ≡ Some signature) before answer after
reads_under signature before after answer under = at (cases_Bool (nat_le 8 (length before.incoming.bytes)))
  where
    short : length before.incoming.bytes < 8 → (answer : Result WireMessage MessageParseError)
        → ReadUnder signature before answer after → (answer ≡ Err errors.MissingData) × (after ≡ before)
    short few (Ok m) under = absurd (omega (arith, few, under.0.whole.header))
    short few (Err errors.MissingData) under = (refl, under.2)
    short few (Err errors.MissingFD) under = absurd (omega (arith, few, under.0.0.header))
    short few (Err errors.Malformed) (inl low, _, _) = absurd (omega (arith, few, low.0))
    short few (Err errors.Malformed) (inr none, _, _) = absurd (omega (arith, few, none.0.0.header))
    short few (Err errors.OutOfMemory) under = absurd (omega (arith, few, under.0.0.0.header))

    at : (nat_le 8 (length before.incoming.bytes) ≡ true) ⊎ (nat_le 8 (length before.incoming.bytes) ≡ false)
        → ReadOne (λ _ _ found. found ≡ Some signature) before answer after
    at (inl header) = rw header (Some signature, refl, under)
    at (inr none) = rw none (short (leb-false 8 _ none) answer under)

-- ---- the tokens of a message that is read

-- its tokens stand at the front of those that wait
pub reads_front : (signature : List ArgumentType) (args : List WireArgument) (payload : List ℕ) (fds : List Token) → Reads signature args payload fds
    → (others : List Token) × (fds ≡ tokens args ++ others)
unfolding Reads
reads_front [] [] payload fds r = (fds, refl)
reads_front (k ∷ signature) (a ∷ args) payload fds r =
    let more = reads_front signature args r.1 r.2 r.6 in
    (more.0, r.4 ∙ ap (λ (ts : List Token). token a ++ ts) more.1 ∙ sym (append_assoc (token a) (tokens args) more.0))
reads_front [] (a ∷ args) payload fds r = absurd r
reads_front (k ∷ signature) [] payload fds r = absurd r

pub reads_enough : (signature : List ArgumentType) (args : List WireArgument) (payload : List ℕ) (fds : List Token) → Reads signature args payload fds
    → fd_count signature ≤ length fds
reads_enough signature args payload fds r =
    let front = reads_front signature args payload fds r in
    omega (arith, ap length front.1, length-append (tokens args) front.0, reads_tokens signature args payload fds r)

-- ---- one answer

-- where a message reads it is refused only for want of memory
pub refused_though_read : (raw : List ℕ) (signature : List ArgumentType) (fds : List Token) (m : WireMessage) (e : MessageParseError)
    → ReadsMessage raw signature fds m → RefusesMessage raw signature fds e → e ≡ errors.OutOfMemory
refused_though_read raw signature fds m errors.MissingData reads (inl short) = absurd (omega (arith, reads.whole.header))
refused_though_read raw signature fds m errors.MissingData reads (inr short) = absurd (omega (arith, short.2, reads.whole.there))
refused_though_read raw signature fds m errors.MissingFD reads few =
    absurd (omega (arith, few.1, reads_enough signature m.args (payload_of raw) fds reads.args))
refused_though_read raw signature fds m errors.Malformed reads (inl short) = absurd (omega (arith, short.1, reads.whole.counts_header))
refused_though_read raw signature fds m errors.Malformed reads (inr none) = absurd (none.1 m.args reads.args)
refused_though_read raw signature fds m errors.OutOfMemory reads refused = refl

-- two refusals, neither for want of memory, are one
module _ (raw : List ℕ) (signature : List ArgumentType) (fds : List Token) where
  short_not_whole : RefusesMessage raw signature fds errors.MissingData → IsWhole raw → ⊥
  short_not_whole (inl short) whole = omega (arith, whole.header)
  short_not_whole (inr short) whole = omega (arith, short.2, whole.there)

  short_not_malformed : RefusesMessage raw signature fds errors.MissingData → RefusesMessage raw signature fds errors.Malformed → ⊥
  short_not_malformed (inl short) (inl low) = omega (arith, low.0)
  short_not_malformed (inr short) (inl low) = omega (arith, short.1, low.1)
  short_not_malformed short (inr none) = short_not_whole short none.0.0

  few_not_malformed : RefusesMessage raw signature fds errors.MissingFD → RefusesMessage raw signature fds errors.Malformed → ⊥
  few_not_malformed few (inl low) = omega (arith, low.1, few.0.counts_header)
  few_not_malformed few (inr none) = omega (arith, few.1, none.0.1)

  pub one_refusal : (e f : MessageParseError) → RefusesMessage raw signature fds e → RefusesMessage raw signature fds f
      → e ≢ errors.OutOfMemory → f ≢ errors.OutOfMemory → e ≡ f
  one_refusal errors.MissingData errors.MissingData r s ok ok' = refl
  one_refusal errors.MissingFD errors.MissingFD r s ok ok' = refl
  one_refusal errors.Malformed errors.Malformed r s ok ok' = refl
  one_refusal errors.MissingData errors.MissingFD r s ok ok' = absurd (short_not_whole r s.0)
  one_refusal errors.MissingFD errors.MissingData r s ok ok' = absurd (short_not_whole s r.0)
  one_refusal errors.MissingData errors.Malformed r s ok ok' = absurd (short_not_malformed r s)
  one_refusal errors.Malformed errors.MissingData r s ok ok' = absurd (short_not_malformed s r)
  one_refusal errors.MissingFD errors.Malformed r s ok ok' = absurd (few_not_malformed r s)
  one_refusal errors.Malformed errors.MissingFD r s ok ok' = absurd (few_not_malformed s r)
  one_refusal errors.OutOfMemory f r s ok ok' = absurd (ok refl)
  one_refusal e errors.OutOfMemory r s ok ok' = absurd (ok' refl)

module _ {T : Type 0} (before x y : LinkState T) where
  under_one : (signature : List ArgumentType) (a b : Result WireMessage MessageParseError)
      → ReadUnder signature before a x → ReadUnder signature before b y → a ≢ Err errors.OutOfMemory → b ≢ Err errors.OutOfMemory → SameRead a b x y
  under_one signature (Ok m) (Ok n) r s ok ok' = record {
    answer = ap (λ (z : WireMessage). let a : Result WireMessage MessageParseError = Ok z in a)
        (one_message_lem m n before.incoming.bytes signature before.incoming.tokens r.0 s.0);
    after = r.1 ∙ sym s.1;
  }
  under_one signature (Err e) (Err f) r s ok ok' = record {
    answer = ap (λ (z : MessageParseError). let a : Result WireMessage MessageParseError = Err z in a)
        (one_refusal before.incoming.bytes signature before.incoming.tokens e f r.0 s.0 (λ is. ok (err is)) (λ is. ok' (err is)));
    after = r.2 ∙ sym s.2;
  }
    where
      err : {z : MessageParseError} → z ≡ errors.OutOfMemory → ◌≡◌ {A = Result WireMessage MessageParseError} (Err z) (Err errors.OutOfMemory)
      err is = ap (λ (w : MessageParseError). let a : Result WireMessage MessageParseError = Err w in a) is
  under_one signature (Ok m) (Err f) r s ok ok' =
      let is : f ≡ errors.OutOfMemory = refused_though_read before.incoming.bytes signature before.incoming.tokens m f r.0 s.0 in
      absurd (ok' (ap (λ (w : MessageParseError). let a : Result WireMessage MessageParseError = Err w in a) is))
  under_one signature (Err e) (Ok n) r s ok ok' =
      let is : e ≡ errors.OutOfMemory = refused_though_read before.incoming.bytes signature before.incoming.tokens n e s.0 r.0 in
      absurd (ok (ap (λ (w : MessageParseError). let a : Result WireMessage MessageParseError = Err w in a) is))

  -- where the look-up has one answer
  pub one_read_lem : (looks_up : ℕ → ℕ → Option (List ArgumentType) → Type 0)
      → ((sender opcode : ℕ) (f g : Option (List ArgumentType)) → looks_up sender opcode f → looks_up sender opcode g → f ≡ g)
      → (a b : Result WireMessage MessageParseError) → ReadOne looks_up before a x → ReadOne looks_up before b y
      → a ≢ Err errors.OutOfMemory → b ≢ Err errors.OutOfMemory → SameRead a b x y
  one_read_lem looks_up function a b r s ok ok' = at (cases_Bool (nat_le 8 (length before.incoming.bytes)))
    where
      found : (f : Option (List ArgumentType))
          → ReadFound f before a x → ReadFound f before b y → SameRead a b x y
      found None p q = record { answer = p.0 ∙ sym q.0; after = p.1 ∙ sym q.1 }
      found (Some signature) p q = under_one signature a b p q ok ok'

      at : (nat_le 8 (length before.incoming.bytes) ≡ true) ⊎ (nat_le 8 (length before.incoming.bytes) ≡ false) → SameRead a b x y
      at (inl header) =
          let p = MatchBool-at_true _ _ header r in
          let q = MatchBool-at_true _ _ header s in
          let same : q.0 ≡ p.0 = function _ _ q.0 p.0 q.1 p.1 in
          let q' = subst (λ (f : Option (List ArgumentType)). ReadFound f before b y) same q.2 in
          found p.0 p.2 q'
      at (inr short) =
          let p = MatchBool-at_false _ _ short r in
          let q = MatchBool-at_false _ _ short s in
          record { answer = p.0 ∙ sym q.0; after = p.1 ∙ sym q.1 }

-- where one look-up gives what another gives, a read under the one is a read under the other
pub read_under_other : {T : Type 0} (looks_up others : ℕ → ℕ → Option (List ArgumentType) → Type 0) (before after : LinkState T) (answer : Result WireMessage MessageParseError)
    → ((sender opcode : ℕ) (f : Option (List ArgumentType)) → looks_up sender opcode f → others sender opcode f)
    → ReadOne looks_up before answer after → ReadOne others before answer after
read_under_other looks_up others before after answer gives read = at (cases_Bool (nat_le 8 (length before.incoming.bytes)))
  where
    at : (nat_le 8 (length before.incoming.bytes) ≡ true) ⊎ (nat_le 8 (length before.incoming.bytes) ≡ false) → ReadOne others before answer after
    at (inl header) = let r = MatchBool-at_true _ _ header read in rw header (r.0, gives _ _ r.0 r.1, r.2)
    at (inr short) = rw short (MatchBool-at_false _ _ short read)
