use Rattle.std.proofs.Common.{arith}
use Rattle.wl_sets.proofs.SlotSets.{takes_out_flagged}
use Rattle.wl_sets.proofs.slot_set.SlotSet.remove_if.Goals as goal

pub returns-then-row-len : goal.returns-then-row-len
returns-then-row-len c =
    let len = c.len.ensures in
    takes_out_flagged c.args.self.now.words.items c.args.slot c.index.result.now c.without_bit.result c.args.flag c.if-flag.true c.index.ensures (omega (arith, c.if-row-len.true, len)) c.without_bit.ensures.others
