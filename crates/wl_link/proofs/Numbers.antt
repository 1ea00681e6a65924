-- Messages with one number: their bytes, and what putting them comes to.
use Rattle.std.proofs.Common.{◌≡◌, ◌∙◌, ℕ, ◌+◌, ◌*◌, ◌≤◌, List, [], ◌∷◌, ◌++◌, append-nil, append_assoc, length, length-append, map, Result, Ok, refl, sym, ap, subst, arith}
use mathlib.Core.Logic.{inl}
use Rattle.std.specs.List.{flat_map}
use Rattle.wl_wire.specs.declared.argument.Token.{Token}
use Rattle.wl_wire.specs.declared.error.IoFault.{IoFault}
use Rattle.wl_wire.specs.Message.{WireMessage, piece, size, spelling, word}
use Rattle.wl_link.specs.declared.number_message.NumberMessage.{NumberMessage}
use Rattle.wl_link.specs.Exchange.{Queue, joined}
use Rattle.wl_link.specs.Link.{LinkState, needed, number_message, spelled, with_outgoing}
use Rattle.wl_link.specs.Puts.{PutsOut, Said, messages_of}
use Rattle.wl_link.proofs.Calls.WriteLaws.{wrote_by_none}

pub spelling_of_number : (m : NumberMessage) → spelling (number_message m) ≡ word m.sender_id ++ (word (786432 + m.opcode) ++ word m.number)
unfolding word piece
spelling_of_number m = refl

size_of_number : (m : NumberMessage) → size (number_message m) ≡ 12
unfolding word piece
size_of_number m = refl

pub length_of_number : (m : NumberMessage) → length (spelling (number_message m)) ≡ 12
unfolding word piece
length_of_number m = refl

-- three words behind one another are the message
pub number_behind : (m : NumberMessage) (front one two three : List ℕ) → one ≡ front ++ word m.sender_id
    → two ≡ one ++ word (786432 + m.opcode) → three ≡ two ++ word m.number
    → three ≡ front ++ spelling (number_message m)
number_behind m front one two three first second third =
    third ∙ ap (λ (l : List ℕ). l ++ word m.number) (second ∙ ap (λ (l : List ℕ). l ++ word (786432 + m.opcode)) first)
    ∙ append_assoc (front ++ word m.sender_id) (word (786432 + m.opcode)) (word m.number)
    ∙ append_assoc front (word m.sender_id) (word (786432 + m.opcode) ++ word m.number)
    ∙ ap (λ (l : List ℕ). front ++ l) (sym (spelling_of_number m))

abbrev pub spellings : List NumberMessage → List ℕ
spellings ms = flat_map (λ m. spelling (number_message m)) ms

-- the link on which these messages wait behind the others
abbrev pub with_numbers : {T : Type 0} → LinkState T → List NumberMessage → LinkState T
with_numbers before ms =
    with_outgoing before before.transport (record { bytes = before.outgoing.bytes ++ spellings ms; tokens = before.outgoing.tokens })

module _ {T : Type 0} (sends : T → Queue → Result ℕ IoFault → T → Type 0) where
  none_with : (before : LinkState T) → with_numbers before [] ≡ before
  none_with before =
      ap (λ (bs : List ℕ). with_outgoing before before.transport (record { bytes = bs; tokens = before.outgoing.tokens })) (append-nil before.outgoing.bytes)

  abbrev with_one : LinkState T → WireMessage → LinkState T
  with_one before m = with_outgoing before before.transport (joined before.outgoing (spelled m))

  one_with : (before : LinkState T) (m : NumberMessage) (ms : List NumberMessage)
      → with_numbers (with_one before (number_message m)) ms ≡ with_numbers before (m ∷ ms)
  one_with before m ms =
      ap (λ (bs : List ℕ). with_outgoing before before.transport (record { bytes = bs; tokens = before.outgoing.tokens ++ [] }))
      (append_assoc before.outgoing.bytes (spelling (number_message m)) (spellings ms))
      ∙ ap (λ (ts : List Token). with_outgoing before before.transport (record { bytes = before.outgoing.bytes ++ spellings (m ∷ ms); tokens = ts })) (append-nil before.outgoing.tokens)

  -- the messages are put, one after another
  pub numbers_put : (ms : List NumberMessage) (said : List Said) (before : LinkState T) → messages_of said ≡ map number_message ms
      → needed before (12 * length ms) ≤ before.outgoing_capacity → PutsOut sends before said [] said (Ok tt) (with_numbers before ms)
  numbers_put [] [] before is room = (refl, refl, refl, none_with before)
  numbers_put [] (s ∷ ss) before is room = absurd cc
  numbers_put (m ∷ ms) [] before is room = absurd cc
  numbers_put (m ∷ ms) (s ∷ ss) before is room =
      let head : s.message ≡ number_message m = cc in
      let tail : messages_of ss ≡ map number_message ms = cc in
      let counted : size s.message ≡ 12 = ap size head ∙ size_of_number m in
      let mid = with_one before s.message in
      let longer : length (before.outgoing.bytes ++ spelling s.message) ≡ length before.outgoing.bytes + 12
      = length-append before.outgoing.bytes (spelling s.message) ∙ ap (λ (k : WireMessage). length before.outgoing.bytes + length (spelling k)) head ∙ ap (λ (k : ℕ). length before.outgoing.bytes + k) (length_of_number m) in
      let written = wrote_by_none sends before mid s.message (Ok tt) (omega (arith, counted)) (omega (arith, counted, room)) (inl (refl, refl)) in
      let after : with_numbers mid ms ≡ with_numbers before (m ∷ ms)
      = ap (λ (k : WireMessage). with_numbers (with_one before k) ms) head ∙ one_with before m ms in
      let others = numbers_put ms ss mid tail (omega (arith, longer, room)) in
      ([], Ok tt, mid, inl written, ([], ss, refl, refl, subst (λ (l : LinkState T). PutsOut sends mid ss [] ss (Ok tt) l) after others))
