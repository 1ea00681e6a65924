use Rattle.std.proofs.Common.{◌∙◌, Vec, ap}
use Rattle.wl_server_model.proofs.CleanupSteps.TakingNotes.{notes_starved, notes_taken}
use Rattle.wl_server.proofs.CallSteps.Kept.{with_plain}
use Rattle.wl_server.proofs.Touched.GatheredSlots.{kept_gathered}
use Rattle.wl_server.proofs.Touched.Gathered.{emptied_kept}
use Rattle.wl_server_model.proofs.Plain.Clients.{takes_notes}
use Rattle.wl_server.proofs.backend.Backend.take_notes.Goals as goal

pub returns-in-Ok : goal.returns-in-Ok
returns-in-Ok g c = with_plain (takes_notes _) (rw (← c.self.view_is)
    (notes_taken _ _ c.gather_made.new.clients.items c.gather_made.new.notes.items c.replace.result c.replace.new.dest.items
    (ap (λ (v : Vec _ _). v.items) c.replace.ensures.value) (ap (λ (v : Vec _ _). v.items) c.replace.ensures.after ∙ c.new-none.ensures.items)
    c.in-Ok.ensures.gathered c.in-Ok.ensures.ended c.in-Ok.ensures.in_order c.gather_made.ensures.first
    (c.gather_made.ensures.numbered c.self.invariant.2)))

pub returns-in-Err : goal.returns-in-Err
returns-in-Err g c = with_plain (takes_notes _) (rw (← c.self.view_is)
    (notes_starved _ _ _ _ _ c.in-Err.ensures.unchanged.0 c.in-Err.ensures.unchanged.1 c.in-Err.ensures.some c.self.invariant.2))

pub invariant_of-self : goal.invariant_of-self
invariant_of-self g c =
    let all = c.gather_made.ensures in
    kept_gathered _ _ _ _ _ _ _ _ (emptied_kept _ _ _ _ _ all.gathered all.unchanged) c.self.inside.clients.ok.0 c.gather_made.new.clients.ok.0
    all.first all.numbered all.quiet c.self.invariant

pub invariant_of-self-in-Err : goal.invariant_of-self-in-Err
invariant_of-self-in-Err g c =
    let all = c.gather_made.ensures in
    kept_gathered _ _ _ _ _ _ _ _ (emptied_kept _ _ _ _ _ all.gathered all.unchanged) c.self.inside.clients.ok.0 c.gather_made.new.clients.ok.0
    all.first all.numbered all.quiet c.self.invariant
