use Rattle.std.proofs.Common.{ℕ, arith, ap, ◌∙◌}
use Rattle.std.specs.Int.{bit_at}
use Rattle.std.proofs.lemmas.Nat.Bits.{bit_at-zero}
use Rattle.wl_sets.proofs.LowestBit.{masked_bit, masked_from, masked_fits}
use Rattle.wl_sets.proofs.slot_set.lowest_bit.Goals as goal

pub returns-then-rest-eq0-clause-skipped : goal.returns-then-rest-eq0-clause-skipped
returns-then-rest-eq0-clause-skipped c = λ i above below.
    masked_bit c.args.word c.args.from i c.requires above below (ap (λ (n : ℕ). bit_at n i) c.if-rest-eq0.true ∙ bit_at-zero i)

pub returns-else-rest-eq0-clause-from : goal.returns-else-rest-eq0-clause-from
returns-else-rest-eq0-clause-from c = masked_from c.args.word c.args.from c.requires c.ranges.word.fits c.if-rest-eq0.false

pub returns-else-rest-eq0-clause-skipped : goal.returns-else-rest-eq0-clause-skipped
returns-else-rest-eq0-clause-skipped c = λ i above below.
    let found = masked_fits c.args.word c.args.from c.requires c.ranges.word.fits c.if-rest-eq0.false in
    masked_bit c.args.word c.args.from i c.requires above (omega (arith, found.0, below)) (found.2 i below)
