use Rattle.std.proofs.Common.{◌≡◌, ◌∙◌, List, ap, sym, subst}
use Rattle.wl_wire.specs.Table.{interface_rows}
use Rattle.wl_relay.specs.Rows.{AddsRow}
use Rattle.wl_relay.specs.Words.{Word, spoken, words}
use Rattle.wl_relay.proofs.commands.row_line.Goals as goal

pub returns-clause-none : goal.returns-clause-none
returns-clause-none c = λ done rows is.
    let text = c.in-Ok.ensures.cases in
    let found : spoken c.in_ok-words.words.items ≡ words c.in-Ok.text.now = c.in_ok-words.ensures in
    let same = ap spoken c.as_slice.ensures.value ∙ found ∙ ap words text.0 in
    let before = interface_rows c.args.interfaces.now.items in
    c.add_row.ensures.none done rows (subst (λ (ws : List Word). AddsRow before ws rows) (sym same) is.1)
