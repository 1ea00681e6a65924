-- That the line at the front of the queue is the first of the log.
use Rattle.std.proofs.Common.{◌≡◌, ◌∷◌, ◌<◌, List, ap, arith, length, map, rules, sym, ◌∙◌}
use Rattle.std.proofs.lemmas.Grind.{common_steps}
use Rattle.std.specs.String.{string_bytes}
use Rattle.wl_relay.specs.Flow.{RelayState}
use Rattle.wl_relay.proofs.LogLines.{first_of_log}
use Rattle.wl_relay.proofs.relay.Relay.first_line.Goals as goal

pub returns-in-Some : goal.returns-in-Some
returns-in-Some c =
    let some : 0 < length c.self.inside.notes.log.items = grind (arith, common_steps) in
    let first = first_of_log string_bytes c.self.inside.notes.log.items c.in-Some.line.now some c.in-Some.ensures.lookup in (
      first.0,
      ap (λ (r : RelayState). r.known.log) (sym c.self.view_is) ∙ first.1 ∙ ap (λ (l : List _). l ∷ first.0) (sym c.as_str.ensures.value),
    )
