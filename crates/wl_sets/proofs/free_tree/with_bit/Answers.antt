use Rattle.std.proofs.Common.{◌∙◌, ap, sym}
use Rattle.std.specs.Int.{w64}
use Rattle.std.proofs.lemmas.Nat.Bits.{bit_at_set_same, bit_at_set_other, bit_at_clear_same, bit_at_clear_other}
use Rattle.wl_sets.specs.FreeTree.{as_bit}
use Rattle.wl_sets.proofs.free_tree.with_bit.Goals as goal

pub returns-then-is_set-clause-here : goal.returns-then-is_set-clause-here
returns-then-is_set-clause-here c = bit_at_set_same w64 c.args.word c.args.at c.requires ∙ sym (ap as_bit c.if-is_set.true)

pub returns-then-is_set-clause-others : goal.returns-then-is_set-clause-others
returns-then-is_set-clause-others c = λ i l o. bit_at_set_other w64 c.args.word c.args.at c.requires i o

pub returns-else-is_set-clause-here : goal.returns-else-is_set-clause-here
returns-else-is_set-clause-here c = bit_at_clear_same w64 c.args.word c.args.at c.requires ∙ sym (ap as_bit c.if-is_set.false)

pub returns-else-is_set-clause-others : goal.returns-else-is_set-clause-others
returns-else-is_set-clause-others c = bit_at_clear_other w64 c.args.word c.args.at c.requires
