use Rattle.std.proofs.Common.{◌≡◌, ◌+◌, ◌++◌, length, sym, ap, ◌∙◌, inl, inr, arith}
use Rattle.std.proofs.lemmas.Bool.{cases_lt, eq-eqb, true≢false}
use Rattle.std.proofs.lemmas.Result.{err_from_is_err_and}
use Rattle.wl_wire.specs.Table.{place, table_of, is_at_fault, interface_row, interface_rows}
use Rattle.wl_wire.specs.declared.protocol.TableError.TheVariants.{DuplicateName}
use Rattle.wl_wire.proofs.Faults.{count_behind, length-table_of, row_there, is_repeated-first, no_fault_more, IsFirstFault-there, none_past}
use Rattle.wl_wire.proofs.table_check.check.Goals as goal

pub returns-in_err-check_interface-clause-first : goal.returns-in_err-check_interface-clause-first
returns-in_err-check_interface-clause-first c =
    let p = err_from_is_err_and c.from_residual.result c.from_residual.ensures.1 in
    let kept = c.args.kept.now in
    let xs = c.args.interfaces.now in
    let at = c.loop-at.at in
    let x = c.index-interfaces-at.result in
    let there = row_there (table_of kept) xs at x c.loop-at-test.true c.index-interfaces-at.is in
    let repeats = is_repeated-first kept xs at c.first_repeat-repeat.result c.loop-at-test.true c.loop-at.invariant.no_repeat c.first_repeat-repeat.ensures.before c.first_repeat-repeat.ensures.here in
    rw (p.1, p.2) (IsFirstFault-there (length (table_of kept)) (table_of kept ++ interface_rows xs) at _ (interface_row x) _ (count_behind kept xs) there repeats
    c.loop-at.invariant.no_fault _ c.in_err-check_interface.ensures.place c.in_err-check_interface.ensures.faulty c.in_err-check_interface.ensures.first)

pub loop-at-preserved : goal.loop-at-preserved
loop-at-preserved c =
    let kept = c.args.kept.now in
    let xs = c.args.interfaces.now in
    let at = c.loop-at.at in
    let x = c.index-interfaces-at.result in
    let n = c.first_repeat-repeat.result in
    let lacks = c.in_ok-check_interface.ensures.faultless in
    let there = row_there (table_of kept) xs at x c.loop-at-test.true c.index-interfaces-at.is in
    let repeats = is_repeated-first kept xs at n c.loop-at-test.true c.loop-at.invariant.no_repeat c.first_repeat-repeat.ensures.before c.first_repeat-repeat.ensures.here in
    let other : ¬ (at ≡ n) = λ same. true≢false (ap (λ b. is_at_fault b (4 + length kept + length xs) (interface_row x) (DuplicateName at)) (sym (eq-eqb at n same)) ∙ lacks (DuplicateName at) (omega arith)) in
    record {
      no_repeat = omega arith;
      no_fault = no_fault_more (length (table_of kept)) (table_of kept ++ interface_rows xs) at _ (interface_row x) _ (count_behind kept xs) there repeats c.loop-at.invariant.no_fault lacks;
    }

pub returns-clause-faultless : goal.returns-clause-faultless
returns-clause-faultless c = λ fault.
    let kept = c.args.kept.now in
    let xs = c.args.interfaces.now in
    elim (cases_lt (place fault) c.loop-at.at) [
      | inl before ↦ c.loop-at.invariant.no_fault fault before
      | inr after ↦ none_past (length (table_of kept)) (table_of kept ++ interface_rows xs) fault (omega (arith, length-table_of kept, count_behind kept xs))
    ]
