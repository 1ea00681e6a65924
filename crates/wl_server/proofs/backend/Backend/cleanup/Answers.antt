use Rattle.std.proofs.Common.{◌∙◌, ap, arith, length, refl, sym}
use Rattle.std.proofs.lemmas.List.{length-map}
use Rattle.wl_server.proofs.CallSteps.Kept.{with_plain}
use Rattle.wl_server_model.proofs.CallSteps.Numbering.{numbers_left, waiting_anew}
use Rattle.wl_server_model.proofs.CleanupSteps.CleaningUp.{cleaned_up, cleanup_starved}
use Rattle.wl_server_model.proofs.Plain.Clients.{cleans_up}
use Rattle.wl_server.proofs.Touched.Gathered.{quiet_cleaned, sent_cleaned}
use Rattle.wl_server.proofs.Touched.Leaving.{quiet_live, taken_cleaned}
use Rattle.wl_server.proofs.backend.Backend.cleanup.Goals as goal

pub clean_up-self-inside-requires-clause-given : goal.clean_up-self-inside-requires-clause-given
clean_up-self-inside-requires-clause-given g c = rw c.deref.ensures.value at c.in-Ok.ensures.given

pub clean_up-self-inside-requires-clause-live : goal.clean_up-self-inside-requires-clause-live
clean_up-self-inside-requires-clause-live g c = quiet_live _ _ (rw c.deref.ensures.value at c.memory_for.ensures.quiet)

pub memory_for-requires-clause-quiet : goal.memory_for-requires-clause-quiet
memory_for-requires-clause-quiet g c = rw c.deref.ensures.value c.self.invariant.3.quiet

pub returns-in-Ok : goal.returns-in-Ok
returns-in-Ok g c =
    let all = c.clean_up-self-inside.ensures in
    with_plain (cleans_up _) (rw (← c.self.view_is) (cleaned_up _ _ _ _ _ c.clean_up-self-inside.new.memory.given _ refl
    (rw c.memory_for.ensures.items at all.cleaned) c.clean_up-self-inside.new.numbers all.first all.none_waits (all.numbered c.self.invariant.2)
    all.numbers))

pub returns-in-Err : goal.returns-in-Err
returns-in-Err g c = with_plain (cleans_up _) (rw (← c.self.view_is)
    (cleanup_starved _ _ _ c.memory_for.new.notes.items c.memory_for.ensures.items (rw c.deref.ensures.value at c.in-Err.ensures.some)
    c.self.invariant.2))

pub invariant_of-self : goal.invariant_of-self
invariant_of-self g c =
    let all = c.clean_up-self-inside.ensures in
    let by = all.cleaned in
    let same = ap length by.stay ∙ (length-map by.left _ ∙ (sym (length-map by.left _) ∙ (ap length by.gathers.rest ∙ (length-map by.flushed _
    ∙ by.flushes.len)))) in
    let within = c.self.invariant.0.within in (
      record {
        within = omega (arith, same, c.self.inside.clients.ok.0, c.clean_up-self-inside.new.clients.ok.0, within);
        taken = taken_cleaned g.T.Transport.sends _ _ _ _ _ _ _ _ by (rw c.deref-in-Ok.ensures.value at c.free_from_after-self-inside.ensures)
            c.self.invariant.0.taken;
      },
      rw all.numbers (waiting_anew _ _ all.none_waits (numbers_left _ _ _ all.first c.self.invariant.1)),
      all.numbered c.self.invariant.2,
      record {
        sent = sent_cleaned g.T.Transport.sends _ _ _ _ _ _ _ by c.self.invariant.3.sent;
        quiet = quiet_cleaned g.T.Transport.sends _ _ _ _ _ _ _ by all.none_waits (all.numbered c.self.invariant.2);
      },
    )

pub invariant_of-self-in-Err : goal.invariant_of-self-in-Err
invariant_of-self-in-Err g c =
    let quiet = rw c.deref.ensures.value at c.memory_for.ensures.quiet in
    (c.self.invariant.0, c.self.invariant.1, c.self.invariant.2, record { sent = c.self.invariant.3.sent; quiet = quiet })
