use Rattle.std.proofs.Common.{◌++◌, length, subst, sym}
use Rattle.std.proofs.lemmas.Result.{err_from_is_err_and}
use Rattle.wl_wire.specs.Table.{AnswersGrowth, IsFirstFaultFrom, interface_rows}
use Rattle.wl_wire.proofs.Growth.{AnswersGrowth-first}
use Rattle.wl_wire.proofs.protocol.append.Goals as goal

pub returns-in_err-check_behind-clause-answer : goal.returns-in_err-check_behind-clause-answer
returns-in_err-check_behind-clause-answer c =
    let old = interface_rows c.args.table.now.items in
    let new = interface_rows c.args.interfaces.items in
    let p = err_from_is_err_and c.from_residual.result c.from_residual.ensures.1 in
    let first : IsFirstFaultFrom (length old) (old ++ new) p.0 = rw (p.2, ← c.deref.ensures.value, ← c.deref-2.ensures.value) c.in_err-check_behind.ensures.first in
    subst (AnswersGrowth old new) (sym p.1) (AnswersGrowth-first old new p.0 first)
