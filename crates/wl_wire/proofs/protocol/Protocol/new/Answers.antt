use Rattle.std.proofs.Common.{◌≡◌, List, subst, arith}
use Rattle.std.proofs.lemmas.Result.{err_from_is_err_and}
use Rattle.std.proofs.lemmas.Grind.{common_steps}
use Rattle.wl_wire.specs.declared.interface.Interface.{Interface}
use Rattle.wl_wire.specs.declared.protocol.TableError.{TableError}
use Rattle.wl_wire.specs.declared.protocol.TableError.TheVariants.{OutOfMemory}
use Rattle.wl_wire.specs.Table.{HasFault, IsFirstFault, table_of}
use Rattle.wl_wire.proofs.Faults.{refused, no_fault_of_memory, IsAcceptedTable-joined}
use Rattle.wl_wire.proofs.protocol.Protocol.new.Goals as goal

pub returns-in_err-check-clause-refused : goal.returns-in_err-check-clause-refused
returns-in_err-check-clause-refused c = λ fault apart.
    let p = err_from_is_err_and c.from_residual.result c.from_residual.ensures.1 in
    let first : IsFirstFault (table_of c.args.interfaces.items) p.0 = rw (p.2, ← c.deref.ensures.value) c.in_err-check.ensures.first in
    refused 4 (table_of c.args.interfaces.items) c.from_residual.result p.0 p.1 first fault

pub returns-in_err-check-clause-memory : goal.returns-in_err-check-clause-memory
returns-in_err-check-clause-memory c = λ is.
    let p = err_from_is_err_and c.from_residual.result c.from_residual.ensures.1 in
    let first : IsFirstFault (table_of c.args.interfaces.items) p.0 = rw (p.2, ← c.deref.ensures.value) c.in_err-check.ensures.first in
    let memory : p.0 ≡ OutOfMemory = cc in
    absurd (no_fault_of_memory 4 (table_of c.args.interfaces.items) (subst (HasFault (table_of c.args.interfaces.items)) memory first.here))

pub invariant_of-result : goal.invariant_of-result
invariant_of-result c =
    IsAcceptedTable-joined c.in_ok-table.table.items c.args.interfaces.items c.append.new.self.items c.in_ok-table.ensures c.in_ok-append.ensures.items
    (subst (λ (xs : List Interface). (e : TableError) → ¬ (HasFault (table_of xs) e)) c.deref.ensures.value c.in_ok-check.ensures.faultless)

pub returns-clause-accepted : goal.returns-clause-accepted
returns-clause-accepted c =
    IsAcceptedTable-joined c.in_ok-table.table.items c.args.interfaces.items c.append.new.self.items c.in_ok-table.ensures c.in_ok-append.ensures.items
    (subst (λ (xs : List Interface). (e : TableError) → ¬ (HasFault (table_of xs) e)) c.deref.ensures.value c.in_ok-check.ensures.faultless)

pub returns-clause-table : goal.returns-clause-table
returns-clause-table c = grind (arith, common_steps)

pub returns-clause-display : goal.returns-clause-display
returns-clause-display c = grind (arith, common_steps)

pub returns-clause-registry : goal.returns-clause-registry
returns-clause-registry c = grind (arith, common_steps)

pub returns-clause-callback : goal.returns-clause-callback
returns-clause-callback c = grind (arith, common_steps)
