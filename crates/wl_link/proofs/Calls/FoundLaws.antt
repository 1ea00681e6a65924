-- What stands at the front of what waits.
use Rattle.std.proofs.Common.{◌≡◌, ◌≢◌, ◌⊎◌, ℕ, ◌<◌, ◌≤◌, Bool, true, false, List, Option, None, Some, is_some, Result, Ok, Err, refl, sym, arith, length}
use Rattle.std.specs.Prelude.{nat_le}
use Rattle.std.proofs.lemmas.Bool.{le-leb, leb-true, leb-false, cases_Bool}
use Rattle.std.proofs.lemmas.List.{length-drop}
use mathlib.Core.Logic.{inl, inr}
use Rattle.wl_wire.specs.Inside.Cursor.{arguments_at}
use Rattle.wl_wire.proofs.Spelling.CursorLaws.{none_reads, some_read}
use Rattle.wl_wire.specs.declared.argument.ArgumentType.{ArgumentType}
use Rattle.wl_wire.specs.declared.argument.Token.{Token}
use Rattle.wl_wire.specs.declared.error.MessageParseError.{MessageParseError}
use Rattle.wl_wire.specs.declared.error.MessageParseError.TheVariants as errors
use Rattle.wl_wire.specs.Message.{WireMessage}
use Rattle.wl_wire.specs.Parse.{IsInline, IsWhole, ReadsMessage, RefusesMessage, fd_count, length_of, opcode_of, payload_of, sender_of}
use Rattle.wl_link.specs.Link.{LinkState, ReadOne, after_first, with_incoming}

module _ {T : Type 0} (look_up : ℕ → ℕ → Option (List ArgumentType)) (l : LinkState T) where
  abbrev Answers : Result WireMessage MessageParseError → LinkState T → Type 0
  Answers answer after = ReadOne (λ sender opcode found. found ≡ look_up sender opcode) l answer after

  -- data or tokens are lacking, or it is malformed, or a message is there, which has a byte at least
  abbrev pub Fronts : Type 0
  Fronts =
      (Answers (Err errors.MissingData) l ⊎ Answers (Err errors.MissingFD) l)
      ⊎ (Answers (Err errors.Malformed) l
      ⊎ ((m : WireMessage) × (after : LinkState T) × Answers (Ok m) after × (length after.incoming.bytes < length l.incoming.bytes)))

  abbrev bytes : List ℕ
  bytes = l.incoming.bytes

  abbrev fds : List Token
  fds = l.incoming.tokens

  module _ (header : 8 ≤ length bytes) (signature : List ArgumentType) (looked : look_up (sender_of bytes) (opcode_of bytes) ≡ Some signature) where
    refuses : (e : MessageParseError) → RefusesMessage bytes signature fds e → (IsInline signature → e ≢ errors.OutOfMemory) → Answers (Err e) l
    refuses e why ok = rw (le-leb 8 (length bytes) header) (Some signature, sym looked, (why, ok, refl))

    there : IsWhole bytes → fd_count signature ≤ length fds → (b : Bool) → is_some (arguments_at signature (payload_of bytes) fds) ≡ b → Fronts
    there whole enough true some =
        let args = some_read signature (payload_of bytes) fds some in
        let m : WireMessage = record { sender = sender_of bytes; opcode = opcode_of bytes; args = args.0 } in
        let reads : ReadsMessage bytes signature fds m = record { whole = whole; sender = refl; opcode = refl; args = args.1 } in
        let after : LinkState T = with_incoming l l.transport (after_first signature l.incoming) in
        let read : Answers (Ok m) after = rw (le-leb 8 (length bytes) header) (Some signature, sym looked, (reads, refl)) in
        inr (inr (m, after, read, omega (arith, length-drop (length_of bytes) bytes, whole.counts_header, whole.there)))
    there whole enough false none =
        inr (inl (refuses errors.Malformed (inr ((whole, enough), none_reads signature (payload_of bytes) fds none)) (λ inline e. absurd cc)))

    tokens_or : IsWhole bytes → (b : Bool) → nat_le (fd_count signature) (length fds) ≡ b → Fronts
    tokens_or whole true is = there whole (leb-true (fd_count signature) (length fds) is) (is_some (arguments_at signature (payload_of bytes) fds)) refl
    tokens_or whole false is = inl (inr (refuses errors.MissingFD (whole, leb-false (fd_count signature) (length fds) is) (λ inline e. absurd cc)))

    data_or : 8 ≤ length_of bytes → (b : Bool) → nat_le (length_of bytes) (length bytes) ≡ b → Fronts
    data_or high true is =
        tokens_or (record { header = header; counts_header = high; there = leb-true (length_of bytes) (length bytes) is }) (nat_le (fd_count signature) (length fds)) refl
    data_or high false is =
        inl (inl (refuses errors.MissingData (inr (header, high, leb-false (length_of bytes) (length bytes) is)) (λ inline e. absurd cc)))

    counted_or : (b : Bool) → nat_le 8 (length_of bytes) ≡ b → Fronts
    counted_or true is = data_or (leb-true 8 (length_of bytes) is) (nat_le (length_of bytes) (length bytes)) refl
    counted_or false is = inr (inl (refuses errors.Malformed (inl (header, leb-false 8 (length_of bytes) is)) (λ inline e. absurd cc)))

  signed_or : 8 ≤ length bytes → (o : Option (List ArgumentType)) → look_up (sender_of bytes) (opcode_of bytes) ≡ o → Fronts
  signed_or header None looked = inr (inl (rw (le-leb 8 (length bytes) header) (None, sym looked, (refl, refl))))
  signed_or header (Some signature) looked = counted_or header signature looked (nat_le 8 (length_of bytes)) refl

  pub front_of : Fronts
  front_of = at (cases_Bool (nat_le 8 (length bytes)))
    where
      at : (nat_le 8 (length bytes) ≡ true) ⊎ (nat_le 8 (length bytes) ≡ false) → Fronts
      at (inl header) = signed_or (leb-true 8 (length bytes) header) (look_up (sender_of bytes) (opcode_of bytes)) refl
      at (inr short) = inl (inl (rw short (refl, refl)))
