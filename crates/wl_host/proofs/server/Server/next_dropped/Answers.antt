use Rattle.std.proofs.Common.{◌≡◌, ◌∙◌, Ok, ap, of_z, refl, rules, sym, to_z, w32}
use Rattle.wl_host.proofs.Conserving.{conserves_dropped}
use Rattle.wl_host.specs.Server.{or_would_block}
use Rattle.wl_host.proofs.server.Server.next_dropped.Goals as goal
use Rattle.wl_host.proofs.server.Server.next_dropped.Goals.{in-Some, in-None}

pub returns-clause-descriptors : goal.returns-clause-descriptors
returns-clause-descriptors c =
    elim c.match-next_passed.branch [
      | in-Some w ↦ rw (← c.self.view_is) (conserves_dropped _ _ _ (c.next_passed.result, c.next_passed.ensures, w.result-is ∙ (ap Ok (let same : to_z w32 (of_z w32 w.in-Some.descriptor) ≡ w.in-Some.descriptor = search rules in same) ∙ ap or_would_block (sym w.in-Some.is)), refl))
      | in-None w ↦ rw (← c.self.view_is) (conserves_dropped _ _ _ (c.next_passed.result, c.next_passed.ensures, w.result-is ∙ ap or_would_block (sym w.in-None.is), refl))
    ]
