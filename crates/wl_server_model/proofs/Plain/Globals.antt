-- Globals that are created, disabled and removed.
use Rattle.std.proofs.Common.{◌≡◌, ◌⊎◌, ℕ, Bool, true, false, cond, List, [], ◌∷◌, ◌++◌, append-nil, None, Some, Result, Ok, Err, refl, ap, subst, ◌∙◌, arith, true≢false, sym}
use mathlib.Core.Logic.{inl, inr}
use Rattle.std.specs.Prelude.{◌==◌, option_map}
use Rattle.std.proofs.lemmas.Bool.{eq-eqb, ne_eqb}
use Rattle.wl_wire.specs.declared.interface.InterfaceId.{InterfaceId}
use Rattle.wl_link.proofs.Calls.Branches.{either_option}
use Rattle.wl_link.proofs.Ids.StoreLaws.{removed_here, rewritten_here, stored_here}
use Rattle.wl_link.specs.declared.object.Object.{Object}
use Rattle.wl_link.specs.Exchange.{Queue}
use Rattle.wl_link.specs.Identity.{Id, named_in}
use Rattle.wl_link.specs.Link.{LinkState}
use Rattle.wl_link.specs.Puts.{Said}
use Rattle.wl_link.specs.Store.{Store, held, rewritten, stored}
use Rattle.wl_wire.specs.declared.error.IoFault.{IoFault}
use Rattle.wl_server_client.specs.declared.error.GlobalError.{GlobalError}
use Rattle.wl_server_client.specs.declared.globals.KeptGlobal.{KeptGlobal}
use Rattle.wl_server_client.specs.declared.notes.DisconnectReason.TheVariants.{ConnectionClosed}
use Rattle.wl_server_client.specs.declared.notes.Happening.TheVariants.{Disconnected}
use Rattle.wl_server_model.specs.declared.step.Reply.{Reply}
use Rattle.wl_server_model.specs.declared.step.Reply.TheVariants as reply
use Rattle.wl_server_model.specs.declared.step.Step.{Step}
use Rattle.wl_server_model.specs.declared.step.Step.TheVariants as step
use Rattle.wl_server_model.specs.Backend.{BackendState, Calls}
use Rattle.wl_server_client.specs.Deeds.{Deed, notes_in}
use Rattle.wl_server_client.specs.Felt.{Hears, news, removals}
use Rattle.wl_server_client.specs.Globals.{IsNextGlobal, Offer, as_disabled, disabled, freed, global_of, global_serial, is_enabled, new_global}
use Rattle.wl_server_client.specs.Ids.{ClientParts, GlobalParts, IdParts}
use Rattle.wl_server_model.specs.Lookups.{and_then}
use Rattle.wl_server_client.specs.Part.{Part, named, with_link}
use Rattle.wl_server_model.specs.PartStep.{Asked, Call, Feels, FeelsGlobal, FeelsLoss, World}
use Rattle.wl_server_model.specs.Plain.{as_killed}
use Rattle.wl_server_model.specs.Plain.Globals.{DisablesGlobal, GlobalCreatedAs, IsToldOrKilled, KillsSome, MayBeTold, OffersGlobal, RemovesGlobal}
use Rattle.wl_server_model.specs.Server.{Seen, seen}
use Rattle.wl_server_model.specs.Steps.{AnswersShared}
use Rattle.wl_server_client.specs.Telling.{closed_down, core_of, end_deeds, part_of, tells}
use Rattle.wl_server_client.specs.Inside.Carried.{told_notes}
use Rattle.wl_server_model.proofs.GlobalCalls.AtName.{created_next, next_absent}
use Rattle.wl_server_model.proofs.OverRuns.Ids.GivenLaws.{created_elsewhere, disabled_changes, freed_changes}
use Rattle.wl_server_model.proofs.Plain.Base.{by_growth, option_cases, nothing_new, of_each, offer_of, some_lacks, split_bool}
use Rattle.wl_server_client.proofs.Readings.Finishing.{where_none, where_some}
use Rattle.wl_server_model.proofs.Plain.Verdicts.{IsTold, told}

-- ---- a client that is told

module _ {T U C : Type 0} (s t : Seen T U C) where
  -- a client that feels nothing
  unfelt_as : t ≡ s → IsToldOrKilled s t
  unfelt_as same =
      elim (option_cases s.part) [ inl none ↦ where_none s.part (sym none) _ _ same | inr (p, there) ↦ where_some s.part p (sym there) _ _ (p.link, inl (grind (arith))) ]

  -- its objects stay
  objects_stay : IsToldOrKilled s t → (o : IdParts) → and_then t.part (λ p. named p.store o) ≡ and_then s.part (λ p. named p.store o)
  objects_stay h o = grind (arith, either_option, named)

  module _ (sends : T → Queue → Result ℕ IoFault → T → Type 0) (messages : Part T U C → List Said) (lacked : Bool) (did : List (Deed U)) where
    -- one that hears of the call is told, or killed
    feels_any : Feels s (λ p q. Hears sends p (messages p) lacked did q) lacked did t → IsToldOrKilled s t
    feels_any h =
        elim (either_option s.part h) [
          | inl (none, (u, (calm, nothing, same))) ↦ unfelt_as same
          | inr (p, there, (q, hears, is)) ↦
              elim (split_bool p.is_killed hears) [
                | inl (dead, (calm, none, same)) ↦ unfelt_as (nothing_new s t p q did there same (ap notes_in none) is)
                | inr (live, tells') ↦ where_some s.part p (sym there) _ _
                    (was_told p q live (told sends (tells (core_of p) (messages p)) p.link lacked did q tells') is)
              ]
        ]
      where
        was_told : (p q : Part T U C) → p.is_killed ≡ false → IsTold (tells (core_of p) (messages p)) lacked did q
            → t ≡ record { part = Some q; made = s.made ++ notes_in did }
            → (link : LinkState T)
            × ((t ≡ record { part = Some (with_link p link); made = s.made })
            ⊎ ((p.is_killed ≡ false) × (t ≡ record { part = Some (as_killed (with_link p link)); made = s.made ++ Disconnected ConnectionClosed ∷ [] })))
        was_told p q live u is = (u.link, (grind (arith, append-nil, part_of, notes_in, end_deeds, told_notes, closed_down, core_of, as_killed)))

    -- if memory was refused to it, it is killed now
    felt_lacked : lacked ≡ true → Feels s (λ p q. Hears sends p (messages p) lacked did q) lacked did t
        → (option_map (λ p. p.is_killed) s.part ≡ Some false) × (option_map (λ p. p.is_killed) t.part ≡ Some true)
    felt_lacked lacks h = grind (arith, either_option, true≢false, split_bool, told, tells, core_of, closed_down, option_map)

module _ {T U G C : Type 0} (w : World T G C) (id : ClientParts) (offer : Offer G) where
  loss_as : (g : GlobalParts) (s t : Seen T U C) (lacked : Bool) (did : List (Deed U)) → FeelsLoss w id offer g s lacked did t → IsToldOrKilled s t
  loss_as g s t lacked did h =
      elim (split_bool (is_enabled (global_of offer.globals g)) h) [ inl (on, feels) ↦ feels_any s t w.sends (λ p. removals p g.name) lacked did feels | inr (off, (calm, none, same)) ↦ unfelt_as s t same ]

  new_as : (i : InterfaceId) (version : ℕ) (handler : G) (s t : Seen T U C) (lacked : Bool) (did : List (Deed U)) (r : Result GlobalParts GlobalError)
      → FeelsGlobal w id offer i version handler r s lacked did t → IsToldOrKilled s t
  new_as i version handler s t lacked did (Ok g) h = feels_any s t w.sends _ lacked did h
  new_as i version handler s t lacked did (Err e) h = unfelt_as s t h.2

-- ---- what an id names

no_error : {g : GlobalParts} {e : GlobalError} → ◌≡◌ {A = Result GlobalParts GlobalError} (Ok g) (Err e) → ⊥
no_error is = absurd cc

module _ {G : Type 0} where
  global_here : (store : Store (KeptGlobal G)) (id : Id) (x : Object (KeptGlobal G)) → (id.number == 0) ≡ false → held store id.number ≡ Some x
      → (x.value.serial == id.serial) ≡ true
      → cond (id.number == 0) None (named_in global_serial id (held store id.number)) ≡ Some x
  global_here store id x numbered holds tells' = grind (arith, cond, named_in, global_serial, held)

-- ---- the calls

module _ {T U G C : Type 0} {w : World T G C} {before after : BackendState T U G C} {s : Step T U G C} {answer : Reply T U}
    (call : Calls w before s answer after) where
  shared_of : AnswersShared before.server.offer (Asked s answer)
  shared_of = let (e, is, refused, by) = call.step in subst (λ (c : Call T U G C). AnswersShared before.server.offer c) is by.global

module _ {T U G C : Type 0} (w : World T G C) (before after : BackendState T U G C) where
  may_be_told : ((id : ClientParts) → IsToldOrKilled (seen id before.server) (seen id after.server)) → MayBeTold before after
  may_be_told each = record { each = each; objects = λ o. objects_stay _ _ (each o.client) o }

  module _ (g : GlobalParts) where
    loss_told : ((id : ClientParts) → (lacked : Bool) × (did : List (Deed U))
        × FeelsLoss w id before.server.offer g (seen id before.server) lacked did (seen id after.server)) → MayBeTold before after
    loss_told each = may_be_told (λ id. let (lacked, did, h) = each id in loss_as w id before.server.offer g _ _ lacked did h)

    -- a loss is told where the global was enabled, and memory was refused to a client that is killed now
    loss_lacked : (id : ClientParts) (did : List (Deed U))
        → FeelsLoss w id before.server.offer g (seen id before.server) true did (seen id after.server)
        → (is_enabled (global_of before.server.offer.globals g) ≡ true) × KillsSome before after
    loss_lacked id did h =
        elim (split_bool (is_enabled (global_of before.server.offer.globals g)) h) [
          | inl (enabled, feels) ↦ let (live, dead) =
              felt_lacked _ _ w.sends (λ p. removals p g.name) true did refl feels in (enabled, (id, live, dead))
          | inr (off, (calm, nothing, stays)) ↦ absurd (true≢false calm)
        ]

  new_told : (i : InterfaceId) (version : ℕ) (handler : G) (r : Result GlobalParts GlobalError)
      → ((id : ClientParts) → (lacked : Bool) × (did : List (Deed U))
      × FeelsGlobal w id before.server.offer i version handler r (seen id before.server) lacked did (seen id after.server))
      → MayBeTold before after
  new_told i version handler r each =
      may_be_told (λ id. let (lacked, did, h) = each id in new_as w id before.server.offer i version handler _ _ lacked did r h)

module _ {T U G C : Type 0} {w : World T G C} {before after : BackendState T U G C} where
  pub disables_global : (g : GlobalParts) → Calls w before (step.DisableGlobal g) reply.DisableGlobal after → DisablesGlobal before g after
  disables_global g call = record {
    global = ap (λ (o : Offer G). global_of o.globals g) (offer_of call) ∙
        (grind (arith, held, global_here, rewritten, as_disabled, rewritten_here, before.server.offer.globals, global_of before.server.offer.globals g));
    others = grind (arith, global_of, offer_of, cond, option_map, as_disabled, disabled, disabled_changes);
    clients = loss_told w before after g (λ id. let (lacked, did, (is, h)) = of_each call id in (lacked, did, h));
    memory = λ known. let (id, did, (is, h)) = some_lacks call refl known in loss_lacked w before after g id did h;
  }

  pub removes_global : (g : GlobalParts) → Calls w before (step.RemoveGlobal g) reply.RemoveGlobal after → RemovesGlobal before g after
  removes_global g call = record {
    global = ap (λ (o : Offer G). global_of o.globals g) (offer_of call) ∙
        (grind (arith, global_serial, removed_here, before.server.offer.globals, global_of before.server.offer.globals g));
    others = grind (arith, global_of, offer_of, cond, freed, freed_changes);
    clients = loss_told w before after g (λ id. let (lacked, did, (is, h)) = of_each call id in (lacked, did, h));
    memory = λ known. let (id, did, (is, h)) = some_lacks call refl known in loss_lacked w before after g id did h;
  }

  module _ (i : InterfaceId) (version : ℕ) (handler : G) where
    create_each : (answer : Result GlobalParts GlobalError) → Calls w before (step.CreateGlobal i version handler) (reply.CreateGlobal answer) after
        → (id : ClientParts)
        → (lacked : Bool) × (did : List (Deed U))
        × FeelsGlobal w id before.server.offer i version handler answer (seen id before.server) lacked did (seen id after.server)
    create_each answer call id =
        let (lacked, did, (r, is, h)) = of_each call id in grind (arith, seen)

    next : (g : GlobalParts) → Calls w before (step.CreateGlobal i version handler) (reply.CreateGlobal (Ok g)) after
        → IsNextGlobal before.server.offer.globals g
    next g call = created_next before.server.offer.table before.server.offer.globals i version g (shared_of call)

    created_as : (answer : Result GlobalParts GlobalError) → Calls w before (step.CreateGlobal i version handler) (reply.CreateGlobal answer) after
        → GlobalCreatedAs before i version handler answer after
    created_as (Ok g) call = (
      (let free : held before.server.offer.globals.store g.name ≡ None = next_absent before.server.offer.globals g (next g call) in
          grind (arith, global_serial, free)),
      ap (λ (o : Offer G). global_of o.globals g) (offer_of call)
          ∙ (grind (arith, global_here, stored, ne_eqb, stored_here, eq-eqb, before.server.offer.globals, new_global i version g.serial handler, next g call)),
      λ other differ.
          ap (λ (o : Offer G). global_of o.globals other) (offer_of call)
          ∙ created_elsewhere before.server.offer.globals i version handler g (next g call) g.serial other differ,
    )
    created_as (Err e) call = (offer_of call, λ id. let (lacked, did, (calm, none, same)) = create_each (Err e) call id in same)

    pub offers_global : (answer : Result GlobalParts GlobalError)
        → Calls w before (step.CreateGlobal i version handler) (reply.CreateGlobal answer) after
        → OffersGlobal before i version handler answer after
    offers_global answer call = record {
      global = created_as answer call;
      clients = new_told w before after i version handler answer (create_each answer call);
      memory = grind (arith, some_lacks, felt_lacked, news, seen, by_growth);
    }
