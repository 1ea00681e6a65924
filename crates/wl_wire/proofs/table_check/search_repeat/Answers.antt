use Rattle.std.proofs.Common.{sym, ap, ◌∙◌, inl, inr, arith}
use Rattle.std.proofs.lemmas.Bool.{cases_eq}
use Rattle.wl_wire.specs.Inside.TableCheck.{is_repeated_behind}
use Rattle.wl_wire.proofs.table_check.search_repeat.Goals as goal

pub loop-at-preserved : goal.loop-at-preserved
loop-at-preserved c = λ k from lt.
    elim (cases_eq k c.loop-at.at) [
      | inl same ↦ ap (is_repeated_behind c.args.kept.now c.args.interfaces.now) same ∙ sym c.is_repeated.ensures ∙ c.if-is_repeated.false
      | inr other ↦ c.loop-at.invariant k from (omega arith)
    ]

pub returns-clause-before : goal.returns-clause-before
returns-clause-before c = λ k from lt. c.loop-at.invariant k from (omega arith)
