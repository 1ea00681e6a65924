use Rattle.std.proofs.Common.{◌∙◌, sym, arith}
use Rattle.std.proofs.lemmas.Bool.{leb-true}
use Rattle.std.proofs.lemmas.Grind.{common_steps}
use Rattle.wl_wire.specs.Inside.Buffer.{piece_len, token_of}
use Rattle.wl_wire.proofs.Pieces.{length-flat_map-more, sum_by-more, token_of-few}
use Rattle.wl_wire.proofs.write.measure_of.Goals as goal

pub loop-arg-preserved : goal.loop-arg-preserved
loop-arg-preserved g c =
    let i = c.loop-arg.arg-index in
    let a = c.arg-item.result in
    let tokens = length-flat_map-more token_of c.args.args.now i a c.loop-arg-test.true c.arg-item.is in record {
      bytes = omega (arith, c.loop-arg.invariant.bytes, c.add.ensures.bytes, sum_by-more piece_len c.args.args.now i a c.loop-arg-test.true c.arg-item.is);
      small = leb-true _ _ (sym c.add.ensures.fits ∙ c.if-not-add.false);
      tokens = omega (arith, c.loop-arg.invariant.tokens, c.add.ensures.tokens, tokens);
      few = omega (arith, c.loop-arg.invariant.few, c.add.ensures.tokens, token_of-few a);
    }

pub returns-then-not-add : goal.returns-then-not-add
returns-then-not-add g c = grind (arith, common_steps)

pub returns : goal.returns
returns g c = grind (arith, common_steps)
