use Rattle.std.proofs.Common.{length, map, take, refl, sym, ap, arith, length-append}
use Rattle.wl_wire.specs.MapIds.{with_ids}
use Rattle.wl_wire.specs.Message.{IsArgument, piece, pieces}
use Rattle.wl_wire.proofs.Pieces.{all-more, got_with_ids, length-piece-with_ids, length_pieces, length-pieces-more, pieces-more, overwritten-nil, overwritten-more}
use Rattle.wl_wire.proofs.write.put_arguments.Goals as goal

pub loop-arg-init : goal.loop-arg-init
loop-arg-init g c = (refl, sym (overwritten-nil c.args.payload.now 8), tt)

pub put_argument-at-requires-clause-room : goal.put_argument-at-requires-clause-room
put_argument-at-requires-clause-room g c =
    let object_number = g.N.Numbering.object_number c.args.numbers.now in
    let new_number = g.N.Numbering.new_number c.args.numbers.now in
    let got = got_with_ids object_number new_number c.args.args.now c.loop-arg.arg-index c.arg-item.result c.loop-arg-test.true c.arg-item.is in
    let a = with_ids object_number new_number c.arg-item.result in
    omega (arith, c.loop-arg.invariant.0, c.requires.bytes, length_pieces object_number new_number c.args.args.now, c.loop-arg.auto.payload, length-piece-with_ids object_number new_number c.arg-item.result, length-pieces-more (map (with_ids object_number new_number) c.args.args.now) c.loop-arg.arg-index a got.0 got.1)

pub put_argument-at-requires-clause-small : goal.put_argument-at-requires-clause-small
put_argument-at-requires-clause-small g c =
    let object_number = g.N.Numbering.object_number c.args.numbers.now in
    let new_number = g.N.Numbering.new_number c.args.numbers.now in
    let got = got_with_ids object_number new_number c.args.args.now c.loop-arg.arg-index c.arg-item.result c.loop-arg-test.true c.arg-item.is in
    let a = with_ids object_number new_number c.arg-item.result in
    omega (arith, c.requires.small, length_pieces object_number new_number c.args.args.now, length-piece-with_ids object_number new_number c.arg-item.result, length-pieces-more (map (with_ids object_number new_number) c.args.args.now) c.loop-arg.arg-index a got.0 got.1)

pub loop-arg-preserved : goal.loop-arg-preserved
loop-arg-preserved g c =
    let object_number = g.N.Numbering.object_number c.args.numbers.now in
    let new_number = g.N.Numbering.new_number c.args.numbers.now in
    let i = c.loop-arg.arg-index in
    let args = map (with_ids object_number new_number) c.args.args.now in
    let a = with_ids object_number new_number c.arg-item.result in
    let got = got_with_ids object_number new_number c.args.args.now i c.arg-item.result c.loop-arg-test.true c.arg-item.is in (
      omega (arith, c.loop-arg.invariant.0, c.put_argument-at.ensures.next, length-piece-with_ids object_number new_number c.arg-item.result, ap length (pieces-more args i a got.0 got.1), length-append (pieces (take i args)) (piece a)),
      overwritten-more c.args.payload.now c.loop-arg.payload c.put_argument-at.new.payload args i c.loop-arg.at a got.0 got.1 (omega (arith, c.requires.bytes, length_pieces object_number new_number c.args.args.now)) c.loop-arg.invariant.0 c.loop-arg.invariant.1 c.put_argument-at.ensures.bytes,
      all-more IsArgument args i a got.0 got.1 c.loop-arg.invariant.2 c.put_argument-at.ensures.value,
    )
