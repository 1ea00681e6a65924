-- That the runs of one client have one outcome, where they are of the same steps, and so it is whatever other clients do.
use Rattle.std.proofs.Common.{◌≡◌, List, [], ◌∷◌, ◌++◌, Some, refl, sym, ap, subst, ◌∙◌, arith}
use Rattle.wl_link.specs.Link.{LinkState, IsFresh}
use Rattle.wl_server_client.specs.Globals.{Offer, new_offer}
use Rattle.wl_server_client.specs.Ids.{ClientParts}
use Rattle.wl_server_model.proofs.OverRuns.Alone.IsolationLaw.{each_alone, offer_over_one, offer_run, split_run}
use Rattle.wl_server_model.proofs.OverRuns.Alone.OwnRuns.{are_mine}
use Rattle.wl_link.proofs.Calls.NumberLaws.{fresh_one}
use Rattle.wl_server_model.proofs.OverRuns.Outcome.OfferLaws.{mine_numbered, shared_call}
use Rattle.wl_server_model.proofs.OverRuns.Outcome.MoveLaws.{IsDetermined}
use Rattle.wl_server_model.specs.Outcome.{AreNumbered, AreOwn, ClientsHaveOneOutcome, HasMemory, InsertsAs, SameRun, SameSteps}
use Rattle.wl_server_model.proofs.OverRuns.Outcome.PartOutcome.{call_one}
use Rattle.wl_server_model.specs.PartStep.{World}
use Rattle.wl_server_model.specs.Runs.{Alone, Leads, Own, just_inserted, mine, offer_over}
use Rattle.wl_server_model.specs.Server.{Seen, ServerState, new_server, seen}
use Rattle.wl_server_model.specs.Steps.{Entry, offer_after}
use Rattle.wl_wire.specs.Table.{InterfaceRow}

module _ {T U G C : Type 0} where
  -- ---- the runs of one client

  pub alone_one : (w : World T G C) → IsDetermined w → (id : ClientParts) (offer : Offer G) (before x y : Seen T U C) (run run' : List (Own T U G C))
      → AreOwn id run → SameSteps run run' → HasMemory run → HasMemory run' → AreNumbered offer run → AreNumbered offer run'
      → Alone w id offer before run x → Alone w id offer before run' y → SameRun id run run' × (x ≡ y)
  alone_one w known id offer before x y [] [] own same ample ample' n n' h g = (tt, h ∙ sym g)
  alone_one w known id offer before x y (e ∷ run) (f ∷ run') (own, owns) (same, others) (unlacked, ample, rest) (unlacked', ample', rest') (n, more)
      (n', more') (mid, by, alone) (mid', by', alone') =
      let shared = shared_call id offer e.call f.call same own ample ample' n n' (grind (arith, e.call)) (grind (arith, f.call)) in
      let one = call_one w known id offer before e.did f.did mid mid' e.call f.call same ample ample' shared.0 (rw unlacked at by)
      (rw unlacked' at by') in
      let later = alone_one w known id (offer_after offer e.call) mid x y run run' owns others rest rest' more (rw (← shared.1) at more') alone
      (rw (← one.held, ← shared.1) at alone') in
      ((one.reply own, one.deeds, later.0), later.1)
  alone_one w known id offer before x y _ _ own same ample ample' n n' h g = absurd same

  -- ---- whatever other clients do

  -- from its insertion on, at an offer that is the one of that moment
  inserted_alone : (w : World T G C) (table : List InterfaceRow) (id : ClientParts) (transport : T) (client_data : C)
      (earlier later : List (Entry T U G C)) (e : Entry T U G C) (after : ServerState T U G C) (offer : Offer G)
      → Leads w (new_server table) (earlier ++ e ∷ later) after → InsertsAs id transport client_data e → offer_over (new_offer table) earlier ≡ offer
      → (link : LinkState T) × IsFresh transport (Some offer.default_limit) link
      × Alone w id offer (just_inserted link client_data) (mine id later) (seen id after) × AreNumbered offer (mine id later)
  inserted_alone w table id transport client_data earlier later e after offer leads inserts is =
      let (link, fresh, alone) = each_alone w table (earlier ++ e ∷ later) after leads id transport client_data earlier later e refl inserts in
      let offered : offer_over (new_offer table) (earlier ++ e ∷ []) ≡ offer
      = offer_over_one (new_offer table) earlier e ∙ ap (offer_after (offer_over (new_offer table) earlier)) inserts ∙ is in (
        link,
        rw is at fresh,
        rw offered at alone,
        subst (λ (o : Offer G). AreNumbered o (mine id later)) offered (grind (arith, split_run, mine, offer_run, offer_over_one, mine_numbered)),
      )

  pub client_one : (w : World T G C) → IsDetermined w → ClientsHaveOneOutcome U w
  client_one w known table id transport client_data earlier later earlier' later' e e' after after' leads leads' inserts inserts' offers same ample ample' =
      let offer = offer_over (new_offer table) earlier in
      let (link, fresh, alone, numbers) = inserted_alone w table id transport client_data earlier later e after offer leads inserts refl in
      let (link', fresh', alone', numbers') = inserted_alone w table id transport client_data earlier' later' e' after' offer leads' inserts'
      (sym offers) in
      let links = fresh_one transport (Some offer.default_limit) link' link fresh' fresh in
      alone_one w known id offer (just_inserted link client_data) (seen id after) (seen id after') (mine id later) (mine id later')
      (are_mine id later)
      same ample ample' numbers numbers' alone
      (subst (λ (l : LinkState T). Alone w id offer (just_inserted l client_data) (mine id later') (seen id after')) links alone')
