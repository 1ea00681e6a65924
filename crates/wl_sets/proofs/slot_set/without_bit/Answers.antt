use Rattle.std.specs.Int.{w64}
use Rattle.std.proofs.lemmas.Nat.Bits.{bit_at_clear_other}
use Rattle.wl_sets.proofs.slot_set.without_bit.Goals as goal

pub returns : goal.returns
returns c = record { others = λ i within other. bit_at_clear_other w64 c.args.word c.args.at c.requires i within other }
