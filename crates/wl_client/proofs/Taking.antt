-- What a message that was read has of the bytes at the front.
use Rattle.std.proofs.Common.{◌≡◌, ℕ, List, Option, None, Some, Result, Ok, Err, is_ok, ap, length, true≢false, arith}
use mathlib.Core.Logic.{inl, inr}
use Rattle.std.specs.Prelude.{nat_le}
use Rattle.wl_wire.specs.declared.argument.ArgumentType.{ArgumentType}
use Rattle.wl_wire.specs.declared.error.MessageParseError.{MessageParseError}
use Rattle.wl_wire.specs.Argument.{WireArgument}
use Rattle.wl_wire.specs.Message.{WireMessage}
use Rattle.wl_wire.specs.Parse.{opcode_of, sender_of}
use Rattle.wl_link.specs.Link.{LinkState, ReadFound, ReadOne}
use Rattle.wl_link.proofs.Calls.Branches.{either_bool}
use Rattle.wl_client.specs.Events.{Deletes, delete_event, display_event, error_event}

no_error : {m : WireMessage} {e : MessageParseError} → ◌≡◌ {A = Result WireMessage MessageParseError} (Ok m) (Err e) → ⊥
no_error same = true≢false (ap is_ok same)

-- its sender and its opcode are those of the header
pub read_header : {T : Type 0} (signature : List ArgumentType) (before : LinkState T) (m : WireMessage) (after : LinkState T)
    → ReadOne (λ _ _ found. found ≡ Some signature) before (Ok m) after
    → (m.sender ≡ sender_of before.incoming.bytes) × (m.opcode ≡ opcode_of before.incoming.bytes)
read_header signature before m after read =
    elim (either_bool (nat_le 8 (length before.incoming.bytes)) read) [
      | inl (found, is, h) ↦ at found h
      | inr (none, same) ↦ absurd (no_error none)
    ]
  where
    at : (found : Option (List ArgumentType)) → ReadFound found before (Ok m) after → (m.sender ≡ sender_of before.incoming.bytes) × (m.opcode ≡ opcode_of before.incoming.bytes)
    at None (none, same) = absurd (no_error none)
    at (Some s) (message, is) = (message.sender, message.opcode)

-- an event of the display that deletes an id has the opcode 1
pub deletes_opcode : (opcode : ℕ) (args : List WireArgument) (n : ℕ) → display_event opcode args ≡ Deletes n → opcode ≡ 1
deletes_opcode opcode args n h1 = grind (arith, display_event, error_event, delete_event)
