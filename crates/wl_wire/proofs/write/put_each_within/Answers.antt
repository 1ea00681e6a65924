use Rattle.std.proofs.Common.{◌++◌, map, refl, sym, ap, arith, ◌∙◌}
use Rattle.std.proofs.lemmas.Grind.{common_steps}
use Rattle.wl_wire.specs.MapIds.{with_ids}
use Rattle.wl_wire.specs.Message.{IsArgument}
use Rattle.wl_wire.specs.Inside.Buffer.{piece_len, token_of}
use Rattle.wl_wire.proofs.Pieces.{all-more, flat_map-more, got_with_ids, length-piece-with_ids, length-pieces-front, rest_at_least, sum_by-more, overwritten-nil, overwritten-next, words_at_least}
use Rattle.wl_wire.proofs.write.put_each_within.Goals as goal
use Rattle.wl_wire.proofs.write.put_each_within.Goals.{then-args-gt-MAX_WORDS-via-then-args-gt-MAX_WORDS, then-args-gt-MAX_WORDS-via-else-args-gt-MAX_WORDS+then-end-args}

pub loop-arg-init : goal.loop-arg-init
loop-arg-init g c = (refl, omega arith, omega arith, sym (overwritten-nil c.args.payload.now 8), refl, tt)

pub loop-arg-preserved : goal.loop-arg-preserved
loop-arg-preserved g c =
    let object_number = g.N.Numbering.object_number c.args.numbers.now in
    let new_number = g.N.Numbering.new_number c.args.numbers.now in
    let i = c.loop-arg.arg-index in
    let args = map (with_ids object_number new_number) c.args.args.now in
    let a = with_ids object_number new_number c.arg-item.result in
    let got = got_with_ids object_number new_number c.args.args.now i c.arg-item.result c.loop-arg-test.true c.arg-item.is in
    let front = length-pieces-front object_number new_number c.args.args.now i in (
      omega (arith, c.loop-arg.invariant.0, c.in_ok-next.ensures.next.0, sum_by-more piece_len c.args.args.now i c.arg-item.result c.loop-arg-test.true c.arg-item.is),
      omega (arith, c.loop-arg.invariant.1, c.loop-arg.invariant.2, c.in_ok-next.ensures.next.1, c.loop-arg-test.true),
      omega (arith, c.loop-arg-test.true),
      overwritten-next c.args.payload.now c.loop-arg.payload c.put_within.new.payload args i c.loop-arg.at a got.0 got.1
          (omega (arith, c.loop-arg.invariant.1, c.loop-arg.invariant.2, c.loop-arg-test.true, c.in_ok-next.ensures.next.0, c.in_ok-next.ensures.next.1, c.requires.end, length-piece-with_ids object_number new_number c.arg-item.result)) (omega (arith, c.loop-arg.invariant.0, front)) c.loop-arg.invariant.3 c.in_ok-next.ensures.bytes,
      flat_map-more token_of c.args.args.now i c.arg-item.result c.loop-arg-test.true c.arg-item.is ∙ ap (λ t. t ++ token_of c.arg-item.result) c.loop-arg.invariant.4 ∙ c.in_ok-next.ensures.token,
      all-more IsArgument args i a got.0 got.1 c.loop-arg.invariant.5 c.in_ok-next.ensures.value,
    )

pub returns-then-args-gt-MAX_WORDS-clause-none : goal.returns-then-args-gt-MAX_WORDS-clause-none
returns-then-args-gt-MAX_WORDS-clause-none g c = λ is none.
    let least = words_at_least c.args.args.now none in
    elim c.then-args-gt-MAX_WORDS.branch [
      | then-args-gt-MAX_WORDS-via-then-args-gt-MAX_WORDS w ↦ omega (arith, least, w.if-args-gt-MAX_WORDS.true, c.requires.end, c.requires.small)
      | then-args-gt-MAX_WORDS-via-else-args-gt-MAX_WORDS+then-end-args w ↦ omega (arith, least, w.if-end-args.true, c.requires.header)
    ]

pub returns-in_err-next-clause-none : goal.returns-in_err-next-clause-none
returns-in_err-next-clause-none g c = λ is none.
    let rest = rest_at_least c.args.args.now c.loop-arg.arg-index c.arg-item.result c.loop-arg-test.true c.arg-item.is none in
    omega (arith, rest.1, c.in_err-next.ensures.none refl rest.0, c.loop-arg.invariant.0, c.loop-arg.invariant.1)

pub returns-clause-next : goal.returns-clause-next
returns-clause-next g c = grind (arith, common_steps)

pub returns-clause-bytes : goal.returns-clause-bytes
returns-clause-bytes g c = grind (arith, common_steps)

pub returns-clause-tokens : goal.returns-clause-tokens
returns-clause-tokens g c = grind (arith, common_steps)

pub returns-clause-values : goal.returns-clause-values
returns-clause-values g c = grind (arith, common_steps)

pub returns-clause-none : goal.returns-clause-none
returns-clause-none g c = grind (arith, common_steps)
