use Rattle.std.proofs.Common.{false, sym, ap, ◌∙◌, inl, inr, arith}
use Rattle.std.proofs.lemmas.Bool.{cases_eq, cases_lt, not-true, not-false}
use Rattle.wl_wire.specs.Inside.TableCheck.{is_repeated_behind}
use Rattle.wl_wire.specs.Table.{is_taken, fixed_rows}
use Rattle.wl_wire.proofs.Faults.{is_named, is_repeated-fixed, is_repeated-not_fixed, known_more}
use Rattle.wl_wire.proofs.table_check.first_repeat.Goals as goal

pub loop-interface-preserved : goal.loop-interface-preserved
loop-interface-preserved c = λ q.
    known_more false c.args.kept.now c.loop-interface.interface-index c.interface-item.result c.as_str.result.now q.now _ _ c.loop-interface-test.true c.interface-item.is c.as_str.ensures.value
    (c.loop-interface.invariant q) (c.in-Ok.ensures.updates.0 q)

pub returns-in-Err-clause-before : goal.returns-in-Err-clause-before
returns-in-Err-clause-before c = λ k lt. c.search_repeat.ensures.before k (omega arith) lt

pub returns-then-is_fixed_name-clause-here : goal.returns-then-is_fixed_name-clause-here
returns-then-is_fixed_name-clause-here c = λ lt.
    is_repeated-fixed c.args.kept.now c.args.interfaces.now c.loop-at.at c.index-interfaces-at.result lt c.index-interfaces-at.is
    (sym (c.is_fixed_name.ensures ∙ ap (is_taken fixed_rows) c.as_str-name.ensures.value) ∙ c.if-is_fixed_name.true)

pub returns-in-Ok-false-clause-here : goal.returns-in-Ok-false-clause-here
returns-in-Ok-false-clause-here c = λ lt.
    let free = sym (c.is_fixed_name.ensures ∙ ap (is_taken fixed_rows) c.as_str-name.ensures.value) ∙ c.if-is_fixed_name.false in
    let is_in = not-false _ (sym c.in-Ok-false.ensures.added ∙ c.in-Ok-false.field-0-test) in
    rw (is_repeated-not_fixed c.args.kept.now c.args.interfaces.now c.loop-at.at c.index-interfaces-at.result lt c.index-interfaces-at.is free, ← c.as_str-name.ensures.value)
    (sym (c.loop-at.invariant.known c.as_str-name.result) ∙ is_in)

pub returns-in-Err-insert-clause-before : goal.returns-in-Err-insert-clause-before
returns-in-Err-insert-clause-before c = λ k lt.
    elim (cases_lt k c.loop-at.at) [ inl before ↦ c.loop-at.invariant.before k before | inr after ↦ c.search_repeat-in-Err-insert.ensures.before k after lt ]

pub loop-at-preserved : goal.loop-at-preserved
loop-at-preserved c =
    let kept = c.args.kept.now in
    let xs = c.args.interfaces.now in
    let free = sym (c.is_fixed_name.ensures ∙ ap (is_taken fixed_rows) c.as_str-name.ensures.value) ∙ c.if-is_fixed_name.false in
    let is_new = not-true _ (sym c.in-Ok-true.ensures.added ∙ c.in-Ok-true.field-0-test) in
    record {
      before = λ k lt. elim (cases_eq k c.loop-at.at) [
        | inl same ↦ ap (is_repeated_behind kept xs) same
            ∙ rw (is_repeated-not_fixed kept xs c.loop-at.at c.index-interfaces-at.result c.loop-at-test.true c.index-interfaces-at.is free, ← c.as_str-name.ensures.value)
            (sym (c.loop-at.invariant.known c.as_str-name.result) ∙ is_new)
        | inr other ↦ c.loop-at.invariant.before k (omega arith)
      ];
      known = λ q. known_more (is_named q.now kept) xs c.loop-at.at c.index-interfaces-at.result c.as_str-name.result.now q.now _ _ c.loop-at-test.true c.index-interfaces-at.is c.as_str-name.ensures.value
          (c.loop-at.invariant.known q) (c.in-Ok-true.ensures.updates.0 q);
    }
