use Rattle.std.proofs.Common.{arith}
use Rattle.wl_sets.proofs.SlotSets.{adds, adds_past}
use Rattle.wl_sets.proofs.slot_set.SlotSet.insert.Goals as goal

pub returns-then-row-len : goal.returns-then-row-len
returns-then-row-len c =
    let len = c.len.ensures in
    adds c.args.self.now.words.items c.args.slot c.index.result.now c.with_bit.result c.index.ensures (omega (arith, c.if-row-len.true, len)) c.with_bit.ensures.here c.with_bit.ensures.others

pub returns-else-row-len : goal.returns-else-row-len
returns-else-row-len c =
    let len = c.len.ensures in
    adds_past c.args.self.now.words.items c.args.slot (omega (arith, c.if-row-len.false, len))
