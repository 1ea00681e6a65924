-- Why no message of a known object is read, by what the parser answers; and that one that is read is there.
use Rattle.std.specs.Prelude.{◌≡◌, ℕ, List}
use Rattle.std.proofs.Common.{subst, sym}
use Rattle.wl_wire.specs.declared.argument.ArgumentType.{ArgumentType}
use Rattle.wl_wire.specs.Message.{WireMessage}
use Rattle.wl_wire.specs.Parse.{IsThere, opcode_of, payload_of, sender_of}
use Rattle.wl_wire.specs.Table.{InterfaceRow, MessageRow}
use Rattle.wl_link.specs.declared.object.Object.{Object}
use Rattle.wl_link.specs.Exchange.{Queue}
use Rattle.wl_link.specs.Store.{Store}
use Rattle.wl_link.proofs.Calls.ReadLaws.{reads_enough}
use Rattle.wl_follow.specs.Fronts.{IsKnown, ReadsKnown, RefusesKnown}
use Rattle.wl_follow.specs.declared.side.Side.{Side}

pub known_refuses : (table : List InterfaceRow) (objects : Store (Unit {0})) (side : Side) (q : Queue) (Refuses : List ArgumentType → Type 0) (sender opcode : ℕ)
    (object : Object (Unit {0})) (row : MessageRow) (signature : List ArgumentType) → sender ≡ sender_of q.bytes → opcode ≡ opcode_of q.bytes
    → IsKnown table objects side sender opcode object row → signature ≡ row.signature → Refuses signature → RefusesKnown table objects side q Refuses
known_refuses table objects side q Refuses sender opcode object row signature sender_is opcode_is known under refused = (
  object,
  row,
  subst (λ (n : ℕ). IsKnown table objects side n (opcode_of q.bytes) object row) sender_is
      (subst (λ (n : ℕ). IsKnown table objects side sender n object row) opcode_is known),
  subst Refuses under refused,
)

pub is_there : (table : List InterfaceRow) (objects : Store (Unit {0})) (side : Side) (q : Queue) (object : Object (Unit {0})) (row : MessageRow) (m : WireMessage)
    (signature : List ArgumentType) → signature ≡ row.signature → ReadsKnown table objects side q object row m → IsThere q.bytes signature q.tokens
is_there table objects side q object row m signature under read =
    let reads = read.1 in
    subst (λ (s : List ArgumentType). IsThere q.bytes s q.tokens) (sym under)
    (reads.whole, reads_enough row.signature m.args (payload_of q.bytes) q.tokens reads.args)
