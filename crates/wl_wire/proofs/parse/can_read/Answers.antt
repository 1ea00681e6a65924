use Rattle.std.proofs.Common.{sym, ◌∙◌}
use Rattle.wl_wire.specs.declared.argument.ArgumentType.TheVariants.{Int}
use Rattle.wl_wire.proofs.Loop.{skips, stops, all_skipped}
use Rattle.wl_wire.proofs.parse.can_read.Goals as goal

pub returns-in_default : goal.returns-in_default
returns-in_default c =
    sym (stops c.args.signature.now c.loop-kind.kind-index c.loop-kind.rest.now c.loop-kind.left.now Int c.loop-kind-test.true c.in_default.ensures) ∙ c.loop-kind.invariant

pub loop-kind-preserved : goal.loop-kind-preserved
loop-kind-preserved c =
    sym (skips c.args.signature.now c.loop-kind.kind-index c.loop-kind.rest.now c.loop-kind.left.now Int c.in-Some.after.now c.in-Some.others.now c.loop-kind-test.true c.in-Some.ensures) ∙ c.loop-kind.invariant

pub returns : goal.returns
returns c = sym (all_skipped c.args.signature.now c.loop-kind.kind-index c.loop-kind.rest.now c.loop-kind.left.now c.loop-kind-test.false) ∙ c.loop-kind.invariant
