use Rattle.std.proofs.Common.{get_or, arith, ◌∙◌}
use Rattle.wl_queues.proofs.Times.{times-more, times-next}
use Rattle.wl_queues.proofs.events.release_all.Goals as goal

pub release-requires : goal.release-requires
release-requires c =
    let i = c.loop-object.object-index in
    let o = get_or c.args.arguments.now i 0 in
    omega (arith, c.requires o, c.loop-object.invariant.references o, times-next c.args.arguments.now i c.loop-object-test.true)

pub loop-object-preserved : goal.loop-object-preserved
loop-object-preserved c = record {
  objects = λ p. c.release.ensures.objects p ∙ c.loop-object.invariant.objects p;
  references = λ p. omega (arith, c.release.ensures.references p, c.loop-object.invariant.references p, times-more p c.args.arguments.now c.loop-object.object-index c.loop-object-test.true);
}
