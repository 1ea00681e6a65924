-- What a read of a link finds, it finds on each link on which the same waits, or more behind it.
use Rattle.std.proofs.Common.{◌≡◌, ◌⊎◌, ℕ, ◌≤◌, true, false, List, ◌++◌, Option, None, Some, Ok, Err, refl, sym, ap, subst, ◌∙◌, arith, length, drop, length-append}
use Rattle.std.specs.Prelude.{nat_le}
use Rattle.std.proofs.lemmas.Bool.{le-leb, leb-true, leb-false, cases_Bool, MatchBool-at_true, MatchBool-at_false}
use Rattle.std.proofs.lemmas.List.{drop-append-le}
use mathlib.Core.Logic.{inl, inr}
use Rattle.wl_wire.specs.declared.argument.ArgumentType.{ArgumentType}
use Rattle.wl_wire.specs.declared.argument.Token.{Token}
use Rattle.wl_wire.specs.declared.error.MessageParseError.{MessageParseError}
use Rattle.wl_wire.specs.declared.error.MessageParseError.TheVariants as errors
use Rattle.wl_wire.specs.Message.{WireMessage}
use Rattle.wl_wire.specs.Parse.{ReadsMessage, RefusesMessage, fd_count, length_of, opcode_of, payload_of, sender_of}
use Rattle.wl_wire.proofs.Spelling.FrontLaws.{behind_front, length_front, malformed_front, message_front, opcode_front, payload_front, sender_front}
use Rattle.wl_link.specs.Exchange.{Queue, joined}
use Rattle.wl_link.specs.Link.{LacksBytes, LinkState, ReadFound, ReadOne, after_first, with_incoming}
use Rattle.wl_link.specs.Reader.{Unreadable, unreadable}
use Rattle.wl_link.proofs.Calls.ReadLaws.{reads_enough}

-- malformed bytes are as many as their header says, or that says fewer than a header has
front_there : (raw : List ℕ) (signature : List ArgumentType) (fds : List Token) → 8 ≤ length raw
    → RefusesMessage raw signature fds errors.Malformed → length_of raw ≤ length raw
front_there raw signature fds header (inl (counted, low)) = omega (arith, header, low)
front_there raw signature fds header (inr ((whole, enough), none)) = whole.there

-- what a read finds, or that it finds it malformed, is so for each link on which more waits behind
module _ {T S : Type 0} (looks_up : ℕ → ℕ → Option (List ArgumentType) → Type 0) (before : LinkState T) (other : LinkState S) (more : Queue)
    (is : other.incoming ≡ joined before.incoming more) where
  bytes_is : other.incoming.bytes ≡ before.incoming.bytes ++ more.bytes
  bytes_is = ap (λ (q : Queue). q.bytes) is

  -- where a header waits, it is that of all that waits on the other link
  module _ (header : 8 ≤ length before.incoming.bytes) where
    other_header : 8 ≤ length other.incoming.bytes
    other_header = omega (arith, header, ap length bytes_is, length-append before.incoming.bytes more.bytes)

    other_found : (found : Option (List ArgumentType)) → looks_up (sender_of before.incoming.bytes) (opcode_of before.incoming.bytes) found
        → looks_up (sender_of other.incoming.bytes) (opcode_of other.incoming.bytes) found
    other_found found looked =
        let s : sender_of other.incoming.bytes ≡ sender_of before.incoming.bytes = ap sender_of bytes_is ∙ sender_front before.incoming.bytes more.bytes header in
        let o : opcode_of other.incoming.bytes ≡ opcode_of before.incoming.bytes = ap opcode_of bytes_is ∙ opcode_front before.incoming.bytes more.bytes header in
        rw (s, o) looked

  -- the message at the front is found there too, and what is left of the one queue is left of the other, and then more
  pub other_reads : (m : WireMessage) (after : LinkState T) → ReadOne looks_up before (Ok m) after
      → (after ≡ with_incoming before before.transport after.incoming)
      × ReadOne looks_up other (Ok m) (with_incoming other other.transport (joined after.incoming more))
  other_reads m after read = at (cases_Bool (nat_le 8 (length before.incoming.bytes)))
    where
      behind : (signature : List ArgumentType) → ReadsMessage before.incoming.bytes signature before.incoming.tokens m
          → joined (after_first signature before.incoming) more ≡ after_first signature other.incoming
      behind signature reads =
          let with_bytes : List ℕ → Queue = λ b. record { bytes = b; tokens = drop (fd_count signature) before.incoming.tokens ++ more.tokens } in
          let with_tokens : List Token → Queue = λ t. record { bytes = drop (length_of (before.incoming.bytes ++ more.bytes)) (before.incoming.bytes ++ more.bytes); tokens = t } in
          ap with_bytes (sym (behind_front before.incoming.bytes more.bytes reads.whole.header reads.whole.there))
          ∙ ap with_tokens (sym (drop-append-le (fd_count signature) before.incoming.tokens more.tokens (reads_enough signature m.args (payload_of before.incoming.bytes) before.incoming.tokens reads.args)))
          ∙ ap (after_first signature) (sym is)

      found : (f : Option (List ArgumentType)) → 8 ≤ length before.incoming.bytes → looks_up (sender_of before.incoming.bytes) (opcode_of before.incoming.bytes) f
          → ReadFound f before (Ok m) after
          → (after ≡ with_incoming before before.transport after.incoming)
          × ReadOne looks_up other (Ok m) (with_incoming other other.transport (joined after.incoming more))
      found None header looked none = let e = none.0 in absurd cc
      found (Some signature) header looked under =
          let left : after.incoming ≡ after_first signature before.incoming = ap (λ (l : LinkState T). l.incoming) under.1 in
          let reads = message_front before.incoming.bytes more.bytes signature before.incoming.tokens more.tokens m under.0 in
          let reads' : ReadsMessage other.incoming.bytes signature other.incoming.tokens m = subst (λ (q : Queue). ReadsMessage q.bytes signature q.tokens m) (sym is) reads in
          let ends : with_incoming other other.transport (joined after.incoming more) ≡ with_incoming other other.transport (after_first signature other.incoming)
          = ap (λ (q : Queue). with_incoming other other.transport (joined q more)) left ∙ ap (with_incoming other other.transport) (behind signature under.0) in (
            under.1 ∙ ap (with_incoming before before.transport) (sym left),
            rw (le-leb 8 (length other.incoming.bytes) (other_header header)) (Some signature, other_found header (Some signature) looked, (reads', ends)),
          )

      at : (nat_le 8 (length before.incoming.bytes) ≡ true) ⊎ (nat_le 8 (length before.incoming.bytes) ≡ false)
          → (after ≡ with_incoming before before.transport after.incoming)
          × ReadOne looks_up other (Ok m) (with_incoming other other.transport (joined after.incoming more))
      at (inl header) = let r = MatchBool-at_true _ _ header read in found r.0 (leb-true 8 (length before.incoming.bytes) header) r.1 r.2
      at (inr short) = let r = MatchBool-at_false _ _ short read in let e = r.0 in absurd cc

  -- what is malformed at the front is malformed there too
  pub other_malformed : (after : LinkState T) → ReadOne looks_up before (Err errors.Malformed) after → ReadOne looks_up other (Err errors.Malformed) other
  other_malformed after read = at (cases_Bool (nat_le 8 (length before.incoming.bytes)))
    where
      found : (f : Option (List ArgumentType)) → 8 ≤ length before.incoming.bytes → looks_up (sender_of before.incoming.bytes) (opcode_of before.incoming.bytes) f
          → ReadFound f before (Err errors.Malformed) after → ReadOne looks_up other (Err errors.Malformed) other
      found None header looked none =
          rw (le-leb 8 (length other.incoming.bytes) (other_header header)) (None, other_found header None looked, (refl, refl))
      found (Some signature) header looked under =
          let refuses = malformed_front before.incoming.bytes more.bytes signature before.incoming.tokens more.tokens under.0 in
          let refuses' : RefusesMessage other.incoming.bytes signature other.incoming.tokens errors.Malformed
          = subst (λ (q : Queue). RefusesMessage q.bytes signature q.tokens errors.Malformed) (sym is) refuses in
          rw (le-leb 8 (length other.incoming.bytes) (other_header header)) (Some signature, other_found header (Some signature) looked, (refuses', under.1, refl))

      at : (nat_le 8 (length before.incoming.bytes) ≡ true) ⊎ (nat_le 8 (length before.incoming.bytes) ≡ false) → ReadOne looks_up other (Err errors.Malformed) other
      at (inl header) = let r = MatchBool-at_true _ _ header read in found r.0 (leb-true 8 (length before.incoming.bytes) header) r.1 r.2
      at (inr short) = let r = MatchBool-at_false _ _ short read in let e = r.0 in absurd cc

-- bytes that are malformed are the same malformed message where more wait behind
module _ {T : Type 0} (signature_of : ℕ → ℕ → Option (List ArgumentType)) (before after : LinkState T) (more : List ℕ) where
  abbrev of_bytes : List ℕ → Unreadable
  of_bytes bytes = unreadable (signature_of (sender_of bytes) (opcode_of bytes)) bytes

  pub unreadable_later : ReadOne (λ sender opcode found. found ≡ signature_of sender opcode) before (Err errors.Malformed) after
      → of_bytes (before.incoming.bytes ++ more) ≡ of_bytes before.incoming.bytes
  unreadable_later read = at (cases_Bool (nat_le 8 (length before.incoming.bytes)))
    where
      raw : List ℕ
      raw = before.incoming.bytes

      same : (f : Option (List ArgumentType)) → 8 ≤ length raw → ReadFound f before (Err errors.Malformed) after
          → unreadable f (raw ++ more) ≡ unreadable f raw
      same None header none = rw (sender_front raw more header, opcode_front raw more header, length_front raw more header) refl
      same (Some signature) header under =
          let there : length_of raw ≤ length raw = front_there raw signature before.incoming.tokens header under.0 in
          rw (payload_front raw more header there, sender_front raw more header, opcode_front raw more header, length_front raw more header) refl

      found : (f : Option (List ArgumentType)) → 8 ≤ length raw → f ≡ signature_of (sender_of raw) (opcode_of raw)
          → ReadFound f before (Err errors.Malformed) after → of_bytes (raw ++ more) ≡ of_bytes raw
      found f header looked read = rw (sender_front raw more header, opcode_front raw more header, ← looked) (same f header read)

      at : (nat_le 8 (length raw) ≡ true) ⊎ (nat_le 8 (length raw) ≡ false) → of_bytes (raw ++ more) ≡ of_bytes raw
      at (inl header) = let r = MatchBool-at_true _ _ header read in found r.0 (leb-true 8 (length raw) header) r.1 r.2
      at (inr short) = let r = MatchBool-at_false _ _ short read in let e = r.0 in absurd cc

-- a refusal is that of each link on which the same waits
pub refused_there : {T S : Type 0} (looks_up : ℕ → ℕ → Option (List ArgumentType) → Type 0) (l : LinkState T) (k : LinkState S) (e : MessageParseError)
    → k.incoming ≡ l.incoming → ReadOne looks_up l (Err e) l → ReadOne looks_up k (Err e) k
refused_there looks_up l k e is read = at (cases_Bool (nat_le 8 (length l.incoming.bytes)))
  where
    sizes : nat_le 8 (length k.incoming.bytes) ≡ nat_le 8 (length l.incoming.bytes)
    sizes = ap (λ (q : Queue). nat_le 8 (length q.bytes)) is

    found : (f : Option (List ArgumentType)) → ReadFound f l (Err e) l → ReadFound f k (Err e) k
    found None none = (none.0, refl)
    found (Some signature) under =
        (subst (λ (q : Queue). RefusesMessage q.bytes signature q.tokens e) (sym is) under.0, under.1, refl)

    at : (nat_le 8 (length l.incoming.bytes) ≡ true) ⊎ (nat_le 8 (length l.incoming.bytes) ≡ false) → ReadOne looks_up k (Err e) k
    at (inl header) =
        let r = MatchBool-at_true _ _ header read in
        let looked = subst (λ (q : Queue). looks_up (sender_of q.bytes) (opcode_of q.bytes) r.0) (sym is) r.1 in
        rw (sizes ∙ header) (r.0, looked, found r.0 r.2)
    at (inr short) = rw (sizes ∙ short) ((MatchBool-at_false _ _ short read).0, refl)

-- what lacks data does not hold the message at the front to its last byte
pub lacks_bytes : {T : Type 0} (looks_up : ℕ → ℕ → Option (List ArgumentType) → Type 0) (l : LinkState T) → ReadOne looks_up l (Err errors.MissingData) l
    → LacksBytes l.incoming.bytes
lacks_bytes looks_up l read = at (cases_Bool (nat_le 8 (length l.incoming.bytes)))
  where
    found : (f : Option (List ArgumentType)) → ReadFound f l (Err errors.MissingData) l → LacksBytes l.incoming.bytes
    found None none = let e = none.0 in absurd cc
    found (Some signature) (inl short, asks, same) = inl short
    found (Some signature) (inr (header, whole, short), asks, same) = inr short

    at : (nat_le 8 (length l.incoming.bytes) ≡ true) ⊎ (nat_le 8 (length l.incoming.bytes) ≡ false) → LacksBytes l.incoming.bytes
    at (inl header) = let r = MatchBool-at_true _ _ header read in found r.0 r.2
    at (inr short) = inl (leb-false 8 (length l.incoming.bytes) short)
