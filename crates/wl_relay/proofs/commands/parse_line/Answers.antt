use Rattle.std.proofs.Common.{◌≡◌, ◌∙◌, ap}
use Rattle.wl_relay.specs.Words.{spoken, words}
use Rattle.wl_relay.proofs.Came.{line_says}
use Rattle.wl_relay.proofs.commands.parse_line.Goals as goal

pub returns : goal.returns
returns c =
    let text = c.in-Ok.ensures.cases in
    let found : spoken c.in_ok-words.words.items ≡ words c.in-Ok.text.now = c.in_ok-words.ensures in
    let same = ap spoken c.as_slice.ensures.value ∙ found ∙ ap words text.0 in
    line_says c.args.line.now (spoken c.as_slice.result.now) c.arrival_of.result text.1 same c.arrival_of.ensures
