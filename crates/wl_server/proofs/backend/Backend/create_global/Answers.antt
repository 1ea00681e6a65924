use Rattle.std.proofs.Common.{◌≡◌, ◌∙◌, ℕ, Err, false, refl, sym}
use Rattle.std.proofs.lemmas.List.{with_items_is}
use Rattle.wl_wire.specs.declared.interface.InterfaceId.{InterfaceId}
use Rattle.wl_server_client.specs.declared.error.GlobalError.{GlobalError}
use Rattle.wl_server_client.specs.declared.error.GlobalError.TheVariants as refused
use Rattle.wl_server_model.specs.PartStep.{Asked}
use Rattle.wl_server_model.specs.Steps.{lacks_growth}
use Rattle.wl_server_model.specs.declared.step.Reply.TheVariants as reply
use Rattle.wl_server_model.specs.declared.step.Step.TheVariants as step
use Rattle.wl_server_model.proofs.CallSteps.Feeling.{felt_call, unfelt_call}
use Rattle.wl_server.proofs.CallSteps.Kept.{kept_felt, with_globals, with_plain}
use Rattle.wl_server_model.proofs.Plain.Globals.{offers_global}
use Rattle.wl_server.proofs.Touched.Kept.{all_touched}
use Rattle.wl_server.proofs.backend.Backend.create_global.Goals as goal
use Rattle.wl_server.proofs.backend.Backend.create_global.Goals.{in-OutOfMemory, in_default}

no_growth : (T U G C : Type 0) (i : InterfaceId) (version : ℕ) (handler : G) (e : GlobalError) → (e ≡ refused.OutOfMemory → ⊥)
    → lacks_growth {T = T} {U = U} {G = G} {C = C} (Asked (step.CreateGlobal i version handler) (reply.CreateGlobal (Err e))) ≡ false
no_growth T U G C i version handler refused.OutOfMemory other = absurd (other refl)
no_growth T U G C i version handler e other = refl

pub returns-after-matches : goal.returns-after-matches
returns-after-matches g c = with_plain (offers_global _ _ _ _) (rw (← c.self.view_is)
    (unfelt_call _ _ _ _ (record { last = refl; client = λ b. tt; order = tt; room = λ b. tt; notes = λ b a h. h }) c.match-matches.self _
    (with_globals _ _ _ _ _ _ c.in-Err.ensures.globals) c.in-Err.ensures.answer
    (elim c.match-matches.branch [
      | in-OutOfMemory w ↦ rw w.in-OutOfMemory.is (sym w.self-is)
      | in_default w ↦ no_growth g.row.T.Denot g.row.U.Denot g.row.G.Denot g.row.C.Denot c.args.interface c.args.version c.args.handler
          c.in-Err.error w.in_default.not-OutOfMemory ∙ sym w.self-is
    ])
    (λ id b. (_, refl, (refl, refl, refl))) c.self.invariant.2))

pub returns-in-Ok : goal.returns-in-Ok
returns-in-Ok g c =
    let told = rw c.deref_mut.ensures.value at c.tell_named-self-inside.ensures in
    let felt = rw c.in-Ok.ensures.kept at told.felt in
    with_plain (offers_global _ _ _ _) (rw (← c.self.view_is, with_items_is c.self.inside.clients _ (felt.len ∙ sym c.self.inside.clients.ok.0))
    (felt_call _ _ _ _ (record { last = refl; client = λ b. tt; order = tt; room = λ b. tt; notes = λ b a h. h }) _ c.tell_named-self-inside.result _
    _ _ (with_globals _ _ _ _ _ _ c.in-Ok.ensures.globals) c.in-Ok.ensures.answer refl (λ i l d b a h. (_, refl, h)) felt told.in_time
    (told.numbered c.self.invariant.2)))

pub invariant_of-self : goal.invariant_of-self
invariant_of-self g c =
    let told = rw c.deref_mut.ensures.value at c.tell_named-self-inside.ensures in
    let felt = rw c.in-Ok.ensures.kept at told.felt in
    rw (with_items_is c.self.inside.clients _ (felt.len ∙ sym c.self.inside.clients.ok.0)) (kept_felt _ _ _ _ _ _ _ _ _ _ _ refl felt told.in_time
    told.numbered (λ are. all_touched _ _ c.insert_all.ensures.to_send c.insert_all.ensures.to_note) c.self.invariant)
