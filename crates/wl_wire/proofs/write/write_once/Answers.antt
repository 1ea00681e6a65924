use Rattle.std.proofs.Common.{refl, sym, ◌≡◌, ◌∙◌, ◌+◌, ◌*◌, ◌++◌, arith, rules}
use Rattle.std.proofs.lemmas.Grind.{common_steps}
use Rattle.wl_wire.specs.MapIds.{numbered}
use Rattle.wl_wire.specs.Message.{word, pieces, size}
use Rattle.wl_wire.proofs.Pieces.{length-header, overwritten-header-last, size-numbered, tokens-numbered}
use Rattle.wl_wire.proofs.write.write_once.Goals as goal

pub returns-clause-written : goal.returns-clause-written
returns-clause-written g c =
    let m = numbered (g.N.Numbering.object_number c.args.numbers.now) (g.N.Numbering.new_number c.args.numbers.now) c.args.message.now in
    let bytes-is : c.in_ok-bytes.bytes ≡ size m = c.in_ok-bytes.ensures.next.0 ∙ sym (size-numbered _ _ c.args.message.now _ c.as_slice.ensures) in (
      bytes-is,
      rw (c.put_header.ensures, c.in_ok-bytes.ensures.bytes, c.number_object.ensures, c.as_slice.ensures, bytes-is)
          (overwritten-header-last c.args.payload.now (word m.sender ++ word (size m * 65536 + m.opcode)) (pieces m.args) (length-header _ _) (omega (arith, bytes-is, c.in_ok-bytes.ensures.next.1, c.min-end.ensures))),
    )

pub returns-then-end-lt8-clause-none : goal.returns-then-end-lt8-clause-none
returns-then-end-lt8-clause-none g c = λ _ _ _. omega (arith, c.if-end-lt8.true, c.min-end.ensures)

pub returns-in_err-bytes-clause-none : goal.returns-in_err-bytes-clause-none
returns-in_err-bytes-clause-none g c = λ _ none small.
    let size-is = size-numbered (g.N.Numbering.object_number c.args.numbers.now) (g.N.Numbering.new_number c.args.numbers.now) c.args.message.now _ c.as_slice.ensures in
    let tokens-is = tokens-numbered (g.N.Numbering.object_number c.args.numbers.now) (g.N.Numbering.new_number c.args.numbers.now) c.args.message.now _ c.as_slice.ensures in
    omega (arith, size-is, c.in_err-bytes.ensures.none refl (sym tokens-is ∙ none), small, c.min-end.ensures)

pub returns-clause-message : goal.returns-clause-message
returns-clause-message g c =
    let size-is = size-numbered (g.N.Numbering.object_number c.args.numbers.now) (g.N.Numbering.new_number c.args.numbers.now) c.args.message.now _ c.as_slice.ensures in
    record { sender = search rules; opcode = search rules; args = search rules; size = omega (arith, size-is, c.in_ok-bytes.ensures.next.0, c.in_ok-bytes.ensures.next.1, c.min-end.ensures) }

pub put_header-requires-clause-size : goal.put_header-requires-clause-size
put_header-requires-clause-size g c = omega (arith, c.in_ok-bytes.ensures.next.1, c.min-end.ensures)

pub put_header-requires-clause-room : goal.put_header-requires-clause-room
put_header-requires-clause-room g c = omega (arith, c.put_each_within.auto.payload, c.if-end-lt8.false, c.min-end.ensures)

pub returns-clause-room : goal.returns-clause-room
returns-clause-room g c = (omega (arith, c.in_ok-bytes.ensures.next.1, c.min-end.ensures), omega (arith, c.in_ok-bytes.ensures.next.1, c.min-end.ensures))

pub returns-clause-tokens : goal.returns-clause-tokens
returns-clause-tokens g c = tokens-numbered _ _ c.args.message.now _ c.as_slice.ensures ∙ c.in_ok-bytes.ensures.tokens

pub returns-clause-none : goal.returns-clause-none
returns-clause-none g c = λ e. absurd cc

pub as_slice-requires : goal.as_slice-requires
as_slice-requires g c = grind (arith, common_steps)
