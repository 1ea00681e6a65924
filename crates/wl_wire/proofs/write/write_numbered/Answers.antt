use Rattle.std.proofs.Common.{◌≡◌, ◌≤◌, ◌+◌, ◌*◌, ◌++◌, Err, refl, sym, ap, ◌∙◌, length, arith, rules}
use Rattle.std.proofs.lemmas.Result.{err_from_is_err_and}
use Rattle.std.proofs.lemmas.Grind.{common_steps}
use Rattle.wl_wire.specs.declared.error.MessageWriteError.TheVariants.{OutOfMemory}
use Rattle.wl_wire.specs.MapIds.{numbered}
use Rattle.wl_wire.specs.Message.{word, pieces, size}
use Rattle.wl_wire.specs.Inside.Buffer.{tokens_of}
use Rattle.wl_wire.proofs.Pieces.{length-header, overwritten-header, size-numbered, tokens-with_ids}
use Rattle.wl_wire.proofs.Writing.{long-decides, memory-decides, small-decides, written-decides}
use Rattle.wl_wire.proofs.write.write_numbered.Goals as goal

-- ---- too long

pub returns-in_default-clause-too_long : goal.returns-in_default-clause-too_long
returns-in_default-clause-too_long g c = (long-decides _ _ c.args.message.now _ c.as_slice-args.ensures c.args.payload.now c.in_default.ensures).too_long

pub returns-in_default-clause-too_small : goal.returns-in_default-clause-too_small
returns-in_default-clause-too_small g c = (long-decides _ _ c.args.message.now _ c.as_slice-args.ensures c.args.payload.now c.in_default.ensures).too_small

-- ---- too little room

pub returns-then-payload-measure-clause-too_long : goal.returns-then-payload-measure-clause-too_long
returns-then-payload-measure-clause-too_long g c =
    (small-decides _ _ c.args.message.now _ c.as_slice-args.ensures c.args.payload.now _ c.in-Some.ensures.0 c.in-Some.ensures.1 c.if-payload-measure.true).too_long

pub returns-then-payload-measure-clause-too_small : goal.returns-then-payload-measure-clause-too_small
returns-then-payload-measure-clause-too_small g c =
    (small-decides _ _ c.args.message.now _ c.as_slice-args.ensures c.args.payload.now _ c.in-Some.ensures.0 c.in-Some.ensures.1 c.if-payload-measure.true).too_small

-- ---- no memory for the tokens

pub returns-in_err-append_tokens-clause-too_long : goal.returns-in_err-append_tokens-clause-too_long
returns-in_err-append_tokens-clause-too_long g c =
    let p = err_from_is_err_and c.from_residual.result c.from_residual.ensures.1 in
    let refused : c.from_residual.result ≡ Err OutOfMemory = p.1 ∙ ap Err p.2 in
    let room : c.in-Some.measure.bytes ≤ length c.args.payload.now = omega (arith, c.if-payload-measure.false) in
    rw refused (memory-decides _ _ c.args.message.now _ c.as_slice-args.ensures c.args.payload.now _ c.in-Some.ensures.0 c.in-Some.ensures.1 room).too_long

pub returns-in_err-append_tokens-clause-too_small : goal.returns-in_err-append_tokens-clause-too_small
returns-in_err-append_tokens-clause-too_small g c =
    let p = err_from_is_err_and c.from_residual.result c.from_residual.ensures.1 in
    let refused : c.from_residual.result ≡ Err OutOfMemory = p.1 ∙ ap Err p.2 in
    let room : c.in-Some.measure.bytes ≤ length c.args.payload.now = omega (arith, c.if-payload-measure.false) in
    rw refused (memory-decides _ _ c.args.message.now _ c.as_slice-args.ensures c.args.payload.now _ c.in-Some.ensures.0 c.in-Some.ensures.1 room).too_small

pub returns-in_err-append_tokens-clause-written : goal.returns-in_err-append_tokens-clause-written
returns-in_err-append_tokens-clause-written g c = rw (err_from_is_err_and c.from_residual.result c.from_residual.ensures.1).1 tt

pub returns-in_err-append_tokens-clause-tokens : goal.returns-in_err-append_tokens-clause-tokens
returns-in_err-append_tokens-clause-tokens g c = rw (err_from_is_err_and c.from_residual.result c.from_residual.ensures.1).1 tt

pub returns-in_err-append_tokens-clause-message : goal.returns-in_err-append_tokens-clause-message
returns-in_err-append_tokens-clause-message g c = rw (err_from_is_err_and c.from_residual.result c.from_residual.ensures.1).1 tt

pub returns-in_err-append_tokens-clause-memory : goal.returns-in_err-append_tokens-clause-memory
returns-in_err-append_tokens-clause-memory g c = λ _.
    let same = tokens-with_ids (g.N.Numbering.object_number c.args.numbers.now) (g.N.Numbering.new_number c.args.numbers.now) c.args.message.now.args.items in
    let tokens-is : c.in-Some.measure.tokens ≡ length (tokens_of c.args.message.now.args.items) = c.in-Some.ensures.2 ∙ ap (λ args. length (tokens_of args)) c.as_slice-args.ensures in
    omega (arith, tokens-is, ap length same, c.in_err-append_tokens.ensures.memory)

pub returns-in_err-append_tokens-clause-no_tokens : goal.returns-in_err-append_tokens-clause-no_tokens
returns-in_err-append_tokens-clause-no_tokens g c = λ none _.
    let same = tokens-with_ids (g.N.Numbering.object_number c.args.numbers.now) (g.N.Numbering.new_number c.args.numbers.now) c.args.message.now.args.items in
    let tokens-is : c.in-Some.measure.tokens ≡ length (tokens_of c.args.message.now.args.items) = c.in-Some.ensures.2 ∙ ap (λ args. length (tokens_of args)) c.as_slice-args.ensures in
    omega (arith, tokens-is, ap length same, ap length none, c.if-measure-gt0.true)

pub returns-in_err-append_tokens-clause-unchanged : goal.returns-in_err-append_tokens-clause-unchanged
returns-in_err-append_tokens-clause-unchanged g c = rw (err_from_is_err_and c.from_residual.result c.from_residual.ensures.1).1 (refl, c.in_err-append_tokens.ensures.unchanged)

pub returns-in_err-append_tokens-clause-refused_room : goal.returns-in_err-append_tokens-clause-refused_room
returns-in_err-append_tokens-clause-refused_room g c = rw (err_from_is_err_and c.from_residual.result c.from_residual.ensures.1).1 c.in_err-append_tokens.ensures.refused_room

pub returns-in_err-append_tokens-clause-room : goal.returns-in_err-append_tokens-clause-room
returns-in_err-append_tokens-clause-room g c = λ room.
    let same = tokens-with_ids (g.N.Numbering.object_number c.args.numbers.now) (g.N.Numbering.new_number c.args.numbers.now) c.args.message.now.args.items in
    let tokens-is : c.in-Some.measure.tokens ≡ length (tokens_of c.args.message.now.args.items) = c.in-Some.ensures.2 ∙ ap (λ args. length (tokens_of args)) c.as_slice-args.ensures in
    absurd (omega (arith, tokens-is, ap length same, room, c.in_err-append_tokens.ensures.memory))

-- ---- written

pub put_arguments-requires-clause-bytes : goal.put_arguments-requires-clause-bytes
put_arguments-requires-clause-bytes g c = omega (arith, c.in-Some.ensures.0, c.if-payload-measure.false, c.put_header.auto.payload)

pub put_arguments-requires-clause-small : goal.put_arguments-requires-clause-small
put_arguments-requires-clause-small g c = omega (arith, c.in-Some.ensures.0, c.in-Some.ensures.1)

pub returns-clause-written : goal.returns-clause-written
returns-clause-written g c =
    let m = numbered (g.N.Numbering.object_number c.args.numbers.now) (g.N.Numbering.new_number c.args.numbers.now) c.args.message.now in
    let bytes-is : c.in-Some.measure.bytes ≡ size m = c.in-Some.ensures.0 ∙ sym (size-numbered _ _ c.args.message.now _ c.as_slice-args.ensures) in
    let room : size m ≤ length c.args.payload.now = omega (arith, bytes-is, c.if-payload-measure.false) in (
      bytes-is,
      rw (c.put_arguments.ensures.bytes, c.put_header.ensures, c.number_object.ensures, c.as_slice-args.ensures, bytes-is)
          (overwritten-header c.args.payload.now (word m.sender ++ word (size m * 65536 + m.opcode)) (pieces m.args) (length-header _ _) room),
    )

pub returns-clause-message : goal.returns-clause-message
returns-clause-message g c =
    let size-is = size-numbered (g.N.Numbering.object_number c.args.numbers.now) (g.N.Numbering.new_number c.args.numbers.now) c.args.message.now _ c.as_slice-args.ensures in
    record { sender = search rules; opcode = search rules; args = search rules; size = omega (arith, size-is, c.in-Some.ensures.0, c.in-Some.ensures.1) }

pub returns-clause-too_long : goal.returns-clause-too_long
returns-clause-too_long g c =
    (written-decides _ _ c.args.message.now _ c.as_slice-args.ensures c.args.payload.now _ c.in-Some.ensures.0 c.in-Some.ensures.1 (omega (arith, c.if-payload-measure.false))).too_long

pub returns-clause-too_small : goal.returns-clause-too_small
returns-clause-too_small g c =
    (written-decides _ _ c.args.message.now _ c.as_slice-args.ensures c.args.payload.now _ c.in-Some.ensures.0 c.in-Some.ensures.1 (omega (arith, c.if-payload-measure.false))).too_small

pub returns-clause-tokens : goal.returns-clause-tokens
returns-clause-tokens g c =
    let same = tokens-with_ids (g.N.Numbering.object_number c.args.numbers.now) (g.N.Numbering.new_number c.args.numbers.now) c.args.message.now.args.items in
    rw same (grind (arith, common_steps))

pub returns-clause-room : goal.returns-clause-room
returns-clause-room g c =
    let same = tokens-with_ids (g.N.Numbering.object_number c.args.numbers.now) (g.N.Numbering.new_number c.args.numbers.now) c.args.message.now.args.items in
    rw same (grind (arith, common_steps))
