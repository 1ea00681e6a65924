-- Why the registries of a client were told of a global that was offered.
use Rattle.std.proofs.Common.{◌≡◌, ℕ, true, false, List, Option, Some, Result, Ok, Err, MatchOption, refl, ap, subst, ◌∙◌}
use Rattle.std.specs.Prelude.{IfOk}
use Rattle.wl_wire.specs.declared.interface.InterfaceId.{InterfaceId}
use Rattle.wl_wire.specs.Table.{InterfaceRow}
use Rattle.wl_link.specs.Store.{held}
use Rattle.wl_link.proofs.Ids.StoreLaws.{stored_here}
use Rattle.wl_server_client.specs.declared.error.GlobalError.{GlobalError}
use Rattle.wl_server_model.specs.declared.step.Reply.TheVariants as reply
use Rattle.wl_server_model.specs.declared.step.Step.TheVariants as step
use Rattle.wl_server_model.specs.Announced.{AreSameGlobals, Announced, EachAnnouncesShown, announced, announced_as, shown_of}
use Rattle.wl_server_model.specs.Backend.{BackendState, Calls}
use Rattle.wl_server_client.specs.Deeds.{log_of}
use Rattle.wl_server_client.specs.Globals.{Offer, new_global}
use Rattle.wl_server_client.specs.Ids.{ClientParts, GlobalParts}
use Rattle.wl_server_model.specs.Lookups.{client_of}
use Rattle.wl_server_client.specs.Part.{Part}
use Rattle.wl_server_model.specs.PartStep.{Call, World}
use Rattle.wl_server_model.specs.Runs.{Leads, history, mine}
use Rattle.wl_server_model.specs.Server.{ServerState, new_server}
use Rattle.wl_server_model.specs.Steps.{Entry, offer_after}
use Rattle.wl_server_model.proofs.OverRuns.Announced.ShownLaws.{IsShown, shown_among}
use Rattle.wl_server_model.proofs.OverRuns.Ids.AmongLaws.{contains_among}
use Rattle.wl_callers.specs.Announcement.{IsOffered}

-- the law of runs that it follows from
abbrev pub Announcing : {T G C : Type 0} → (U : Type 0) → World T G C → Type 0
Announcing {T = T} {G = G} {C = C} U w =
    (table : List InterfaceRow) (run : List (Entry T U G C)) (after : ServerState T U G C) → Leads w (new_server table) run after → EachAnnouncesShown w run after

module _ {T U G C : Type 0} (w : World T G C) (before after : BackendState T U G C) (i : InterfaceId) (version : ℕ) (handler : G) where
  pub offered : (answer : Result GlobalParts GlobalError) → Calls w before (step.CreateGlobal i version handler) (reply.CreateGlobal answer) after → Announcing U w
      → IfOk answer (λ global. IsOffered w handler i version global after.server)
  offered (Err e) call law = tt
  offered (Ok global) call law = λ id p there live sees table run earlier later e transport client_data registry led split inserted made alone.
      let shows : AreSameGlobals (announced (log_of (history (mine id later))) registry) (shown_of w.views after.server.offer id p.client_data) =
      at_client id p there live (announced (log_of (history (mine id later))) registry)
      (law table run after.server led id transport client_data earlier later e split inserted registry made alone) in
      (shows (announced_as after.server.offer.table (record { name = global.name; interface = i; version = version }))).1
      (contains_among (shown_of w.views after.server.offer id p.client_data) _ (shown_among w.views id p.client_data after.server.offer _ (is_shown id p sees)))
    where
      at_client : (id : ClientParts) (p : Part T U C) → client_of after.server id ≡ Some p → p.is_killed ≡ false → (told : List Announced)
          → MatchOption (client_of after.server id) (Unit {0}) (λ p. p.is_killed ≡ false → AreSameGlobals told (shown_of w.views after.server.offer id p.client_data))
          → AreSameGlobals told (shown_of w.views after.server.offer id p.client_data)
      at_client id p there live told h =
          subst (λ (o : Option (Part T U C)). MatchOption o (Unit {0}) (λ p. p.is_killed ≡ false → AreSameGlobals told (shown_of w.views after.server.offer id p.client_data))) there h live

      is_shown : (id : ClientParts) (p : Part T U C) → w.views handler id p.client_data global ≡ true
          → IsShown w.views id p.client_data after.server.offer (announced_as after.server.offer.table (record { name = global.name; interface = i; version = version }))
      is_shown id p sees = record {
        global = new_global i version global.serial handler;
        at = (let (e, is, refused, by) = call.step in
            ap (λ (o : Offer G). held o.globals.store global.name) (subst (λ (c : Call T U G C). after.server.offer ≡ offer_after before.server.offer c) is by.offer))
            ∙ stored_here before.server.offer.globals.store global.name (new_global i version global.serial handler) global.name refl;
        passes = sees;
        is = refl;
      }
