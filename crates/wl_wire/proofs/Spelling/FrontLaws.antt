-- What stands at the front of a stream stays what it is where more follows.
use Rattle.std.specs.Prelude.{◌≡◌, ℕ, ◌/◌, ◌%◌, ◌≤◌, List, [], ◌∷◌, ◌++◌, length, take, drop}
use Rattle.std.specs.Int.{w32, from_le_bytes}
use Rattle.std.proofs.Common.{refl, sym, ◌∙◌, ap, subst, inl, inr, arith, append_assoc, length-append, cond}
use Rattle.std.proofs.lemmas.List.{take_at, drop_at, take-append-le, take-append-drop, drop-append-le, length-drop}
use Rattle.std.proofs.lemmas.List.Sums.{sum_by-cons}
use Rattle.wl_wire.specs.declared.argument.ArgumentType.{ArgumentType}
use Rattle.wl_wire.specs.declared.argument.Token.{Token}
use Rattle.wl_wire.specs.declared.error.MessageParseError.TheVariants as errors
use Rattle.wl_wire.specs.Argument.{WireArgument}
use Rattle.wl_wire.specs.Message.{WireMessage, token}
use Rattle.wl_wire.specs.Reading.{Reads}
use Rattle.wl_wire.proofs.Spelling.CursorLaws.{piece_fits}
use Rattle.wl_wire.specs.Parse.{length_of, second_word, sender_of, opcode_of, payload_of, fd_count, is_fd, IsWhole, ReadsMessage, RefusesMessage}

-- ---- bytes

module _ (raw more : List ℕ) (header : 8 ≤ length raw) where
  pub sender_front : sender_of (raw ++ more) ≡ sender_of raw
  unfolding sender_of
  sender_front = ap (from_le_bytes w32) (take-append-le 4 raw more (omega arith))

  word_front : second_word (raw ++ more) ≡ second_word raw
  unfolding second_word
  word_front =
      ap (λ (bytes : List ℕ). from_le_bytes w32 (take 4 bytes)) (drop-append-le 4 raw more (omega arith))
      ∙ ap (from_le_bytes w32) (take-append-le 4 (drop 4 raw) more (omega (arith, length-drop 4 raw)))

  pub length_front : length_of (raw ++ more) ≡ length_of raw
  length_front = ap (λ (n : ℕ). n / 65536) word_front

  pub opcode_front : opcode_of (raw ++ more) ≡ opcode_of raw
  opcode_front = ap (λ (n : ℕ). n % 65536) word_front

  module _ (there : length_of raw ≤ length raw) where
    pub payload_front : payload_of (raw ++ more) ≡ payload_of raw
    payload_front =
        ap (λ (n : ℕ). drop 8 (take n (raw ++ more))) length_front ∙ ap (drop 8) (take-append-le (length_of raw) raw more there)

    pub behind_front : drop (length_of (raw ++ more)) (raw ++ more) ≡ drop (length_of raw) raw ++ more
    behind_front = ap (λ (n : ℕ). drop n (raw ++ more)) length_front ∙ drop-append-le (length_of raw) raw more there

pub whole_front : (raw more : List ℕ) → IsWhole raw → IsWhole (raw ++ more)
whole_front raw more whole =
    let same = length_front raw more whole.header in record {
      header = omega (arith, whole.header, length-append raw more);
      counts_header = omega (arith, whole.counts_header, same);
      there = omega (arith, whole.there, same, length-append raw more);
    }

-- ---- arguments

-- what reads, reads where more tokens follow
pub reads_more : (signature : List ArgumentType) (args : List WireArgument) (payload : List ℕ) (fds others : List Token)
    → Reads signature args payload fds → Reads signature args payload (fds ++ others)
unfolding Reads
reads_more [] [] payload fds others r = tt
reads_more (k ∷ signature) (a ∷ args) payload fds others r = (
  r.0,
  r.1,
  r.2 ++ others,
  r.3,
  ap (λ (ts : List Token). ts ++ others) r.4 ∙ append_assoc (token a) r.2 others,
  r.5,
  reads_more signature args r.1 r.2 others r.6,
)
reads_more [] (a ∷ args) payload fds others r = absurd r
reads_more (k ∷ signature) [] payload fds others r = absurd r

-- where the tokens suffice, what reads where more follow reads without them
pub reads_fewer : (signature : List ArgumentType) (args : List WireArgument) (payload : List ℕ) (fds others : List Token)
    → fd_count signature ≤ length fds → Reads signature args payload (fds ++ others) → Reads signature args payload fds
unfolding Reads
reads_fewer [] [] payload fds others enough r = tt
reads_fewer (k ∷ signature) (a ∷ args) payload fds others enough r =
    let n : ℕ = length (token a) in
    let one = (piece_fits k a r.0 r.5).1 in
    let count = sum_by-cons (λ x. cond (is_fd x) 1 0) k signature in
    let within : n ≤ length fds = omega (arith, one, count, enough) in
    let first : take n fds ≡ token a = sym (take-append-le n fds others within) ∙ ap (take n) r.4 ∙ take_at (token a) r.2 n refl in
    let left : r.2 ≡ drop n fds ++ others = sym (drop_at (token a) r.2 n refl) ∙ ap (drop n) (sym r.4) ∙ drop-append-le n fds others within in
    let rest : Reads signature args r.1 (drop n fds ++ others) = subst (Reads signature args r.1) left r.6 in (
      r.0,
      r.1,
      drop n fds,
      r.3,
      sym (take-append-drop n fds) ∙ ap (λ (ts : List Token). ts ++ drop n fds) first,
      r.5,
      reads_fewer signature args r.1 (drop n fds) others (omega (arith, one, count, enough, length-drop n fds)) rest,
    )
reads_fewer [] (a ∷ args) payload fds others enough r = absurd r
reads_fewer (k ∷ signature) [] payload fds others enough r = absurd r

-- ---- a message

module _ (raw more : List ℕ) (signature : List ArgumentType) (fds others : List Token) where
  pub message_front : (m : WireMessage) → ReadsMessage raw signature fds m → ReadsMessage (raw ++ more) signature (fds ++ others) m
  message_front m r = record {
    whole = whole_front raw more r.whole;
    sender = r.sender ∙ sym (sender_front raw more r.whole.header);
    opcode = r.opcode ∙ sym (opcode_front raw more r.whole.header);
    args = subst (λ (p : List ℕ). Reads signature m.args p (fds ++ others)) (sym (payload_front raw more r.whole.header r.whole.there))
        (reads_more signature m.args (payload_of raw) fds others r.args);
  }

  pub malformed_front : RefusesMessage raw signature fds errors.Malformed → RefusesMessage (raw ++ more) signature (fds ++ others) errors.Malformed
  malformed_front (inl (header, low)) =
      inl (omega (arith, header, length-append raw more), omega (arith, low, length_front raw more header))
  malformed_front (inr ((whole, enough), none)) =
      inr (
        (whole_front raw more whole, omega (arith, enough, length-append fds others)),
        λ args reads. none args (reads_fewer signature args (payload_of raw) fds others enough
            (subst (λ (p : List ℕ). Reads signature args p (fds ++ others)) (payload_front raw more whole.header whole.there) reads)),
      )
