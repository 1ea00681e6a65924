use Rattle.std.proofs.Common.{◌/◌, arith}
use Rattle.wl_sets.proofs.SlotSets.{all_skipped, first_skipped, rows_skipped, word_index}
use Rattle.wl_sets.proofs.slot_set.first_slot.Goals as goal

pub returns-then-bit-lt64-clause-skipped : goal.returns-then-bit-lt64-clause-skipped
returns-then-bit-lt64-clause-skipped c =
    first_skipped c.args.words.now c.args.from _ c.lowest_bit-bit.result (word_index c.args.words.now (c.args.from / 64) _ (omega (arith, c.if-row-words.false))) c.lowest_bit-bit.ensures.skipped
    c.lowest_bit-bit.ensures.within

pub returns-then-row-words-2-clause-skipped : goal.returns-then-row-words-2-clause-skipped
returns-then-row-words-2-clause-skipped c k above below =
    let capped = c.saturating_mul-start.ensures in
    rows_skipped c.args.words.now c.args.from _ c.next_row-row.result (word_index c.args.words.now (c.args.from / 64) _ (omega (arith, c.if-row-words.false)))
    (λ i low high. c.lowest_bit-bit.ensures.skipped i low (omega (arith, high, c.if-bit-lt64.false))) c.next_row-row.ensures.skipped k above (omega (arith, below, capped))

pub returns-clause-skipped : goal.returns-clause-skipped
returns-clause-skipped c k above below =
    let capped = c.saturating_mul-start.ensures in
    let more = c.saturating_add.ensures in
    all_skipped c.args.words.now c.args.from _ c.next_row-row.result _ c.lowest_bit.result (word_index c.args.words.now (c.args.from / 64) _ (omega (arith, c.if-row-words.false)))
    (λ i low high. c.lowest_bit-bit.ensures.skipped i low (omega (arith, high, c.if-bit-lt64.false))) c.next_row-row.ensures.skipped
    (word_index c.args.words.now c.next_row-row.result _ (omega (arith, c.if-row-words-2.false))) c.lowest_bit.ensures.skipped c.lowest_bit.ensures.within k above (omega (arith, below, capped, more))
