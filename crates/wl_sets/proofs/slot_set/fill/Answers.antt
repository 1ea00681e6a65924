use Rattle.std.proofs.Common.{arith}
use Rattle.wl_sets.proofs.SlotSets.{all_set}
use Rattle.wl_sets.proofs.slot_set.fill.Goals as goal

pub returns : goal.returns
returns c = all_set c.loop-row.words (λ r below. c.loop-row.invariant.set r (omega (arith, below, c.loop-row-test.false, c.loop-row.invariant.ends)))
