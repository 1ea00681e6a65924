use Rattle.std.proofs.Common.{sym, ◌∙◌, inl, inr, arith}
use Rattle.std.proofs.lemmas.Bool.{cases_lt}
use Rattle.std.specs.Prelude.{length}
use Rattle.wl_flat.proofs.RowsExtend.{fault_past}
use Rattle.wl_flat.proofs.extending.compare.Goals as goal

pub returns-in-Some : goal.returns-in-Some
returns-in-Some c = (c.loop-at.at, sym c.fault_of_row.ensures ∙ c.in-Some.is, c.loop-at.invariant)

pub returns : goal.returns
returns c = λ at. elim (cases_lt at (length c.args.rows.now)) [
  | inl within ↦ c.loop-at.invariant at (omega arith)
  | inr past ↦ fault_past c.args.protocol.now c.args.rows.now at past
]
