use Rattle.std.proofs.Common.{◌-◌, ◌++◌, length, take, drop, refl, subst}
use Rattle.std.specs.Prelude.{OnOk, IfErr}
use Rattle.wl_wire.specs.Table.{IsFirstFaultFrom, LacksFaults, interface_rows}
use Rattle.wl_wire.proofs.Growth.{table_of-rest}
use Rattle.wl_wire.proofs.table_check.check_behind.Goals as goal

pub returns-clause-faultless : goal.returns-clause-faultless
returns-clause-faultless c =
    let all = c.args.table.now in
    subst (λ rows. OnOk c.check.result (LacksFaults rows (interface_rows c.args.interfaces.now)))
    (table_of-rest all (take (length all - 4) (drop 4 all)) c.requires refl) c.check.ensures.faultless

pub returns-clause-first : goal.returns-clause-first
returns-clause-first c =
    let all = c.args.table.now in
    subst (λ rows. IfErr c.check.result (IsFirstFaultFrom (length rows) (rows ++ interface_rows c.args.interfaces.now)))
    (table_of-rest all (take (length all - 4) (drop 4 all)) c.requires refl) c.check.ensures.first
