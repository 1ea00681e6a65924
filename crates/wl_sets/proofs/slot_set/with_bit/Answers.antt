use Rattle.std.specs.Int.{w64}
use Rattle.std.proofs.lemmas.Nat.Bits.{bit_at_set_other, bit_at_set_same}
use Rattle.wl_sets.proofs.slot_set.with_bit.Goals as goal

pub returns-clause-here : goal.returns-clause-here
returns-clause-here c = bit_at_set_same w64 c.args.word c.args.at c.requires

pub returns-clause-others : goal.returns-clause-others
returns-clause-others c = λ i within other. bit_at_set_other w64 c.args.word c.args.at c.requires i other
