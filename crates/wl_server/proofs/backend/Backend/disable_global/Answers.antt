use Rattle.std.proofs.Common.{◌∙◌, refl, sym}
use Rattle.std.proofs.lemmas.List.{with_items_is}
use Rattle.wl_link.proofs.Calls.Branches.{at_false, at_true}
use Rattle.wl_server_model.proofs.CallSteps.Feeling.{felt_call, unfelt_call}
use Rattle.wl_server.proofs.CallSteps.Kept.{kept_felt, with_globals, with_plain}
use Rattle.wl_server_model.proofs.Plain.Globals.{disables_global}
use Rattle.wl_server.proofs.Touched.Kept.{all_touched}
use Rattle.wl_server.proofs.backend.Backend.disable_global.Goals as goal

pub returns-then-was_enabled : goal.returns-then-was_enabled
returns-then-was_enabled g c =
    let told = rw c.deref_mut.ensures.value at c.tell_loss-self-inside.ensures in
    with_plain (disables_global _) (rw (← c.self.view_is, with_items_is c.self.inside.clients _ (told.felt.len ∙ sym c.self.inside.clients.ok.0))
    (felt_call _ _ _ _ (record { last = refl; client = λ b. tt; order = tt; room = λ b. tt; notes = λ b a h. h }) _ c.tell_loss-self-inside.result _ _
    _ (with_globals _ _ _ _ _ _ (c.disable.ensures c.self.inside.last_global c.self.inside.keeps_names)) tt refl
    (λ i l d b a h. (refl, at_true _ _ (sym c.is_enabled-was_enabled.ensures ∙ c.if-was_enabled.true) h)) (rw c.name.ensures at told.felt)
    told.in_time (told.numbered c.self.invariant.2)))

pub returns-else-was_enabled : goal.returns-else-was_enabled
returns-else-was_enabled g c = with_plain (disables_global _) (rw (← c.self.view_is)
    (unfelt_call _ _ _ _ (record { last = refl; client = λ b. tt; order = tt; room = λ b. tt; notes = λ b a h. h }) _ _
    (with_globals _ _ _ _ _ _ (c.disable.ensures c.self.inside.last_global c.self.inside.keeps_names)) tt refl
    (λ i b. (refl, at_false _ _ (sym c.is_enabled-was_enabled.ensures ∙ c.if-was_enabled.false) (refl, refl, refl))) c.self.invariant.2))

pub invariant_of-self : goal.invariant_of-self
invariant_of-self g c =
    let told = rw c.deref_mut.ensures.value at c.tell_loss-self-inside.ensures in
    rw (with_items_is c.self.inside.clients _ (told.felt.len ∙ sym c.self.inside.clients.ok.0)) (kept_felt _ _ _ _ _ _ _ _ _ _ _ refl told.felt
    told.in_time told.numbered (λ are. all_touched _ _ c.insert_all.ensures.to_send c.insert_all.ensures.to_note) c.self.invariant)
